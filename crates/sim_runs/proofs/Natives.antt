-- A native instruction stands for itself anywhere, goes on behind itself or stands again, and keeps DF.
use Rattle.std.proofs.Common.{◌≡◌, ℕ, zero, suc, [], Bool, true, false, List, ◌++◌, length, take, drop, Option, Some, None, get_or, refl, sym, ap, ◌∙◌, subst, ⊎_elim, ◌⊎◌, inl}
use Rattle.std.specs.Prelude.{nat_eq, nat_le, ◌+◌, ◌&&◌, if◌then◌else◌}
use Rattle.br_word.specs.State.{State, RunState, Running, Exited, Faulted}
use Rattle.ia_inst.specs.declared.inst.Inst.{Inst}
use Rattle.ia_inst.specs.declared.inst.Kind.TheVariants as kinds
use Rattle.ia_inst.specs.Kinds.{kind_of}
use Rattle.ia_inst.specs.Act.{NextEip, Past, Again, Act, Load, Store, Ask, Divides, Calls, Ends, Completion, Next, Denied, Divided, Called}
use Rattle.ia_inst.specs.Meaning.{wrap, meaning}
use Rattle.ia_inst.specs.System.{StepResult, On, Bad, or_bad, answers, buffer, filled, system}
use Rattle.ia_inst.specs.Step.{Found, NoCode, NoInst, There, found, result_of, result_at, step_result, settled, unless_stopped, step, NoFault, IsWellDefined}
use Rattle.ia_inst.proofs.Elsewhere.{same_elsewhere}
use Rattle.run_model.specs.Run.{run}
use Rattle.sim_laws.specs.ByKind.{GoesBy, EachGoesByKind}
use Rattle.sim_runs.specs.Native.{AllEnds}
use Rattle.sim_runs.specs.Relation.{IsOver}
use Rattle.sim_runs.proofs.Acts.{AllSo, IsHere, island_here}
use Rattle.sim_runs.proofs.Same.{stays, is_over}

pub native_placeless : (i : Inst) (n : ℕ) (regs : List ℕ) (at to : ℕ) (df : Bool) → kind_of i ≡ kinds.Island → meaning i n regs at df ≡ meaning i n regs to df
native_placeless i n regs at to df k = same_elsewhere i n at to regs df (λ t. let e : kinds.Island ≡ kinds.Transfer = sym k ∙ t in cc)

abbrev pub IsNear : ℕ → NextEip → Type 0
IsNear n to = (to ≡ Past n) ⊎ (to ≡ Again)

near : (n : ℕ) (df : Bool) (a : Act) → AllSo (IsHere n df) a → AllEnds (IsNear n) a
near n df (Load at m k) h = λ v. near n df (k v) (h v)
near n df (Store at m v a) h = near n df a h
near n df (Ask f k) h = λ b. near n df (k b) (h b)
near n df Divides h = tt
near n df (Calls m) h = absurd h
near n df (Ends regs d ch to) h = h.1

pub native_near : (i : Inst) (n : ℕ) (regs : List ℕ) (at : ℕ) (df : Bool) → kind_of i ≡ kinds.Island → AllEnds (IsNear n) (meaning i n regs at df)
native_near i n regs at df k = ⊎_elim
    (λ (h : AllSo (IsHere n df) (meaning i n regs at df)). near n df (meaning i n regs at df) h)
    (λ (e : meaning i n regs at df ≡ Calls n). subst (AllEnds (IsNear n)) (sym e) (inl refl))
    (island_here i n regs at df k)

-- ---- DF through a native instruction

pub native_df : EachGoesByKind → (s : State) (i : Inst) (n : ℕ) → found s.eip s.regions ≡ There i n → kind_of i ≡ kinds.Island → IsWellDefined s → (step s 0).cpu.df ≡ s.cpu.df
unfolding step
native_df by s i n there k f = ⊎_elim goes (λ (o : IsOver s.stop). ap (λ (u : State). u.cpu.df) (stays s 0 o)) (is_over s)
  where
    by_way : s.stop ≡ Running → (w : StepResult) → step_result s 0 ≡ w → NoFault w → (step s 0).cpu.df ≡ s.cpu.df
    by_way r (On t) e nf =
        let is : step s 0 ≡ t = ap (λ stop. unless_stopped stop s (settled (step_result s 0) s)) r ∙ ap (λ w. settled w s) e in
        let way : result_at (There i n) s 0 ≡ On t = ap (λ f. result_at f s 0) (sym there) ∙ e in
        let g : GoesBy kinds.Island i n s t = subst (λ k. GoesBy k i n s t) k (by i n s t 0 way) in
        ap (λ (u : State). u.cpu.df) is ∙ g.1
    by_way r (Bad v) e nf = absurd nf

    goes : s.stop ≡ Running → (step s 0).cpu.df ≡ s.cpu.df
    goes r = by_way r (step_result s 0) refl (f.no_fault r)

-- ---- the start of the heap through any step

abbrev KeepsStart : ℕ → StepResult → Type 0
KeepsStart b (On t) = t.brk_start ≡ b
KeepsStart b (Bad f) = Unit {0}

start_or : {X : Type 0} (b : ℕ) (at : ℕ) (o : Option X) (e : X → StepResult) → ((x : X) → KeepsStart b (e x)) → KeepsStart b (or_bad at o e)
start_or b at None e h = tt
start_or b at (Some x) e h = h x

start_if : (d : ℕ) (b : Bool) (v w : StepResult) → KeepsStart d v → KeepsStart d w → KeepsStart d (if b then v else w)
start_if d true v w h k = h
start_if d false v w h k = k

system_start : (next : ℕ) (s : State) → KeepsStart s.brk_start (system next s)
unfolding system
system_start next s =
    let d = s.brk_start in
    let new = take (get_or s.cpu.regs 2 0) s.input in
    let piece = buffer (get_or s.cpu.regs 1 0) (get_or s.cpu.regs 2 0) s.regions in
    start_if d (nat_eq (get_or s.cpu.regs 0 0) 1) _ _ refl
    (start_if d (nat_eq (get_or s.cpu.regs 0 0) 3) _ _ (start_if d (nat_eq (get_or s.cpu.regs 3 0) 0) _ _ (start_or d (get_or s.cpu.regs 1 0) (filled (get_or s.cpu.regs 1 0) new s.regions) (λ rs. On (record (answers (length new) next s) { regions = rs; input = drop (length new) s.input })) (λ rs. refl)) refl)
    (start_if d (nat_eq (get_or s.cpu.regs 0 0) 4) _ _ (start_if d (nat_eq (get_or s.cpu.regs 3 0) 1) _ _ (start_or d (get_or s.cpu.regs 1 0) piece (λ bs. On (record (answers (get_or s.cpu.regs 2 0) next s) { out = s.out ++ bs })) (λ bs. refl)) (start_if d (nat_eq (get_or s.cpu.regs 3 0) 2) _ _ (start_or d (get_or s.cpu.regs 1 0) piece (λ bs. On (record (answers (get_or s.cpu.regs 2 0) next s) { err = s.err ++ bs })) (λ bs. refl)) refl))
    (start_if d (nat_eq (get_or s.cpu.regs 0 0) 45) _ _ (start_if d (nat_le s.brk_start (get_or s.cpu.regs 3 0) && nat_le (get_or s.cpu.regs 3 0) (s.brk_start + 67108864)) _ _ refl refl)
    refl)))

step_start : (s : State) (c : ℕ) → (step s c).brk_start ≡ s.brk_start
unfolding step
step_start s c = by_stop s.stop
  where
    by_end : (e : Completion) → KeepsStart s.brk_start (result_of e s)
    by_end (Next u rs to) = refl
    by_end (Denied at) = tt
    by_end Divided = tt
    by_end (Called n) = system_start (wrap (s.eip + n)) s

    by_found : (f : Found) → KeepsStart s.brk_start (result_at f s c)
    by_found NoCode = tt
    by_found NoInst = tt
    by_found (There i n) = by_end _

    settled_start : (w : StepResult) → KeepsStart s.brk_start w → (settled w s).brk_start ≡ s.brk_start
    settled_start (On t) h = h
    settled_start (Bad f) h = refl

    by_stop : (stop : RunState) → (unless_stopped stop s (settled (step_result s c) s)).brk_start ≡ s.brk_start
    by_stop Running = settled_start (step_result s c) (by_found (found s.eip s.regions))
    by_stop (Exited n) = refl
    by_stop (Faulted f) = refl

pub run_start : (n : ℕ) (s : State) → (run n s []).brk_start ≡ s.brk_start
run_start zero s = refl
run_start (suc n) s = run_start n (step s 0) ∙ step_start s 0
