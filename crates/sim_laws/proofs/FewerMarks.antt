-- Which flags are defined decides nothing that a guest does, but for which are defined afterwards.
use Rattle.std.proofs.Common.{◌≡◌, ℕ, zero, suc, ◌+◌, Bool, true, false, ◌&&◌, List, [], ◌∷◌, take, drop, get_or, Option, Some, None, Contains, ⊎_elim, refl, sym, ap, ◌∙◌, subst}
use Rattle.std.specs.Prelude.{nat_le, nat_eq, if◌then◌else◌}
use Rattle.std.proofs.lemmas.List.Elements.{Contains-push, Contains-append_left, Contains-append_right}
use Rattle.br_word.specs.declared.types.Flags.{Flags}
use Rattle.br_word.specs.Memory.{Region, load, store}
use Rattle.br_word.specs.State.{Processor, State, RunState, Running, Exited, Faulted, Flag, CF, PF, ZF, SF, OF, flag_of}
use Rattle.ia_inst.specs.Act.{Act, Load, Store, Ask, Divides, Calls, Ends, Change, Keeps, Becomes, IsLeft, Changes, mark_after, marks_after, Completion, Next, Denied, Divided, Called, or_denied, perform}
use Rattle.ia_inst.specs.Meaning.{wrap}
use Rattle.ia_inst.specs.System.{buffer, filled, system, StepResult, On, Bad, or_bad}
use Rattle.ia_inst.specs.Step.{Found, NoCode, NoInst, There, found, act_of, result_of, result_at, step_result, asked_at, settled, unless_stopped, step, AllMarked, NoFault, IsWellDefined}
use Rattle.run_model.specs.Run.{observed, first_choice, run, WellDefined}
use Rattle.sim_laws.specs.FewerMarks.{with_marks, ReadsFlag, WritesFlag, WrittenFirst, IsTaken, FewerMarks, MarksAlone}

-- the flag is defined by the one, and not by the other
abbrev Lost : Flags → Flags → Flag → Type 0
Lost marks m f = (flag_of f m ≡ true) × (flag_of f marks ≡ false)

-- what is lost afterwards was lost before
abbrev LosesNoMore : Flags → Flags → Flags → Flags → Type 0
LosesNoMore marks m marks' m' = (f : Flag) → Lost marks' m' f → Lost marks m f

change_loses : (ch : Change) (a b : Bool) → (mark_after ch b ≡ true) × (mark_after ch a ≡ false) → (b ≡ true) × (a ≡ false)
change_loses Keeps a b h = h
change_loses (Becomes v) a b h = cc (h.1)
change_loses IsLeft a b h = cc (h.0)

loses_no_more : (ch : Changes) (marks m : Flags) → LosesNoMore marks m (marks_after ch marks) (marks_after ch m)
loses_no_more ch marks m CF h = change_loses ch.cf _ _ h
loses_no_more ch marks m PF h = change_loses ch.pf _ _ h
loses_no_more ch marks m ZF h = change_loses ch.zf _ _ h
loses_no_more ch marks m SF h = change_loses ch.sf _ _ h
loses_no_more ch marks m OF h = change_loses ch.of _ _ h

module _ (marks m : Flags) where
  -- an act comes to the same, but for the marks
  abbrev SameEnd : Completion → Completion → Type 0
  SameEnd (Next u rs to) e = (left : Flags) × LosesNoMore marks m left u.marks × (e ≡ Next (record u { marks = left }) rs to)
  SameEnd (Denied at) e = e ≡ Denied at
  SameEnd Divided e = e ≡ Divided
  SameEnd (Called n) e = e ≡ Called n

  after_access : {X : Type 0} (at : ℕ) (o : Option X) (f g : X → Completion) → ((v : X) → SameEnd (f v) (g v)) → SameEnd (or_denied at o f) (or_denied at o g)
  after_access at None f g h = refl
  after_access at (Some v) f g h = h v

  perform_same : (a : Act) (c : ℕ) (u : Processor) (rs : List Region) → u.marks ≡ m → SameEnd (perform a c u rs) (perform a c (record u { marks = marks }) rs)
  perform_same (Load at n k) c u rs e = after_access at (load at n rs) _ _ (λ v. perform_same (k v) c u rs e)
  perform_same (Store at n v a) c u rs e = after_access at (store at n v rs) _ _ (λ qs. perform_same a c u qs e)
  perform_same (Ask f k) c u rs e = perform_same (k (flag_of f u.flags)) c u rs e
  perform_same Divides c u rs e = refl
  perform_same (Calls n) c u rs e = refl
  perform_same (Ends regs df ch to) c u rs e = (marks_after ch marks, rw e (loses_no_more ch marks m), refl)

  -- and so does a step
  abbrev SameResult : StepResult → StepResult → Type 0
  SameResult (On s) w = (left : Flags) × LosesNoMore marks m left s.cpu.marks × (w ≡ On (with_marks left s))
  SameResult (Bad f) w = w ≡ Bad f

  same_on : (s : State) → s.cpu.marks ≡ m → SameResult (On s) (On (with_marks marks s))
  same_on s e = (marks, λ f h. (ap (flag_of f) (sym e) ∙ h.0, h.1), refl)

  either_way : (t : Bool) (d f d' f' : StepResult) → SameResult d d' → SameResult f f' → SameResult (if t then d else f) (if t then d' else f')
  either_way true d f d' f' x y = x
  either_way false d f d' f' x y = y

  after_buffer : {X : Type 0} (at : ℕ) (o : Option X) (f g : X → StepResult) → ((v : X) → SameResult (f v) (g v)) → SameResult (or_bad at o f) (or_bad at o g)
  after_buffer at None f g h = refl
  after_buffer at (Some v) f g h = h v

  system_same : (next : ℕ) (s : State) → s.cpu.marks ≡ m → SameResult (system next s) (system next (with_marks marks s))
  unfolding system
  system_same next s e =
      let number = get_or s.cpu.regs 0 0 in
      let ecx = get_or s.cpu.regs 1 0 in
      let edx = get_or s.cpu.regs 2 0 in
      let ebx = get_or s.cpu.regs 3 0 in
      either_way (nat_eq number 1) _ _ _ _ (same_on _ e)
      (either_way (nat_eq number 3) _ _ _ _
      (either_way (nat_eq ebx 0) _ _ _ _ (after_buffer ecx (filled ecx (take edx s.input) s.regions) _ _ (λ rs. same_on _ e)) (same_on _ e))
      (either_way (nat_eq number 4) _ _ _ _
      (either_way (nat_eq ebx 1) _ _ _ _ (after_buffer ecx (buffer ecx edx s.regions) _ _ (λ bs. same_on _ e))
      (either_way (nat_eq ebx 2) _ _ _ _ (after_buffer ecx (buffer ecx edx s.regions) _ _ (λ bs. same_on _ e)) (same_on _ e)))
      (either_way (nat_eq number 45) _ _ _ _
      (either_way (nat_le s.brk_start ebx && nat_le ebx (s.brk_start + 67108864)) _ _ _ _ (same_on _ e) (same_on _ e))
      (same_on _ e))))

  result_same : (e e' : Completion) (s : State) → s.cpu.marks ≡ m → SameEnd e e' → SameResult (result_of e s) (result_of e' (with_marks marks s))
  result_same (Next u rs to) e' s q h = (h.0, h.1, ap (λ e. result_of e (with_marks marks s)) h.2)
  result_same (Denied at) e' s q h = ap (λ e. result_of e (with_marks marks s)) h
  result_same Divided e' s q h = ap (λ e. result_of e (with_marks marks s)) h
  result_same (Called n) e' s q h =
      subst (λ e. SameResult (system (wrap (s.eip + n)) s) (result_of e (with_marks marks s))) (sym h) (system_same (wrap (s.eip + n)) s q)

  found_same : (f : Found) (s : State) (c : ℕ) → s.cpu.marks ≡ m → SameResult (result_at f s c) (result_at f (with_marks marks s) c)
  found_same NoCode s c e = refl
  found_same NoInst s c e = refl
  found_same (There i n) s c e =
      result_same (perform (act_of i n s) c s.cpu s.regions) (perform (act_of i n s) c (record (s.cpu) { marks = marks }) s.regions) s e
      (perform_same (act_of i n s) c s.cpu s.regions e)

-- a state u is t but for its marks, and no more are lost than before
record Remarked (marks : Flags) (s t u : State) : Type 0 where
  pub left : Flags
  pub loses : LosesNoMore marks s.cpu.marks left t.cpu.marks
  pub same : u ≡ with_marks left t

step_same : (marks : Flags) (s : State) (c : ℕ) → Remarked marks s (step s c) (step (with_marks marks s) c)
unfolding step
step_same marks s c = go s.stop
  where
    unchanged : (t : State) (u : State) → t.cpu.marks ≡ s.cpu.marks → u ≡ with_marks marks t → Remarked marks s t u
    unchanged t u e same = record { left = marks; loses = λ f h. (ap (flag_of f) (sym e) ∙ h.0, h.1); same = same }

    settle : (w w' : StepResult) → SameResult marks s.cpu.marks w w' → Remarked marks s (settled w s) (settled w' (with_marks marks s))
    settle (On t) w' h = record { left = h.0; loses = h.1; same = ap (λ w. settled w (with_marks marks s)) h.2 }
    settle (Bad f) w' h = unchanged _ _ refl (ap (λ w. settled w (with_marks marks s)) h)

    go : (stop : RunState) → Remarked marks s (unless_stopped stop s (settled (step_result s c) s)) (unless_stopped stop (with_marks marks s) (settled (step_result (with_marks marks s) c) (with_marks marks s)))
    go Running = settle (step_result s c) (step_result (with_marks marks s) c) (found_same marks s.cpu.marks (found s.eip s.regions) s c refl)
    go (Exited n) = unchanged _ _ refl refl
    go (Faulted f) = unchanged _ _ refl refl

-- a whole run is the same, but for its marks
run_same : (n : ℕ) (s : State) (marks : Flags) (choices : List ℕ) → (left : Flags) × (run n (with_marks marks s) choices ≡ with_marks left (run n s choices))
run_same zero s marks cs = (marks, refl)
run_same (suc n) s marks cs =
    let r = step_same marks s (first_choice cs) in
    let rest = run_same n (step s (first_choice cs)) r.left (drop 1 cs) in
    (rest.0, ap (λ t. run n t (drop 1 cs)) r.same ∙ rest.1)

pub marks_alone : MarksAlone
marks_alone n s marks choices = ap (with_marks (run n s choices).cpu.marks) (run_same n s marks choices).1

-- ---- a run stays well defined

marked_still : (marks m : Flags) (fs : List Flag) → ((f : Flag) → Lost marks m f → ¬ Contains fs f) → AllMarked m fs → AllMarked marks fs
marked_still marks m [] h a = tt
marked_still marks m (f ∷ fs) h a = (go (flag_of f marks) refl, marked_still marks m fs (λ g l i. h g l (Contains-append_right (f ∷ []) fs g i)) a.1)
  where
    go : (b : Bool) → flag_of f marks ≡ b → flag_of f marks ≡ true
    go true e = e
    go false e = absurd (h f (a.0, e) (Contains-append_left (f ∷ []) fs f (Contains-push [] f)))

same_asked : (f : Found) (marks : Flags) (s : State) → asked_at f (with_marks marks s) ≡ asked_at f s
same_asked NoCode marks s = refl
same_asked NoInst marks s = refl
same_asked (There i n) marks s = refl

no_fault_same : (marks m : Flags) (w w' : StepResult) → SameResult marks m w w' → NoFault w → NoFault w'
no_fault_same marks m (On t) w' h n = subst NoFault (sym h.2) tt
no_fault_same marks m (Bad f) w' h n = absurd n

defined_still : (s : State) (marks : Flags) → ((f : Flag) → IsTaken marks s f → ¬ ReadsFlag f s) → IsWellDefined s → IsWellDefined (with_marks marks s)
defined_still s marks h w = record {
  no_fault = λ r. no_fault_same marks s.cpu.marks (step_result s 0) (step_result (with_marks marks s) 0) (found_same marks s.cpu.marks (found s.eip s.regions) s 0 refl) (w.no_fault r);
  marked = λ r. subst (AllMarked marks) (sym (same_asked (found s.eip s.regions) marks s)) (marked_still marks s.cpu.marks (asked_at (found s.eip s.regions) s) (λ f l i. h f l (r, i)) (w.marked r));
}

-- a flag that a step wrote is no more lost
written_found : (s : State) (marks : Flags) (f : Flag) → WritesFlag f s → Lost (step (with_marks marks s) 0).cpu.marks (step s 0).cpu.marks f → ⊥
written_found s marks f w l = let e = w marks in cc (l.0, l.1, e)

run_defined : (n : ℕ) (s : State) (marks : Flags) → ((f : Flag) → IsTaken marks s f → WrittenFirst f n s) → WellDefined n s → WellDefined n (with_marks marks s)
run_defined zero s marks h w = tt
run_defined (suc n) s marks h w =
    let r = step_same marks s 0 in
    let lost = λ (f : Flag) (l : Lost r.left (step s 0).cpu.marks f). subst (λ (t : State). Lost t.cpu.marks (step s 0).cpu.marks f) (sym r.same) l in
    let later : (f : Flag) → IsTaken r.left (step s 0) f → WrittenFirst f n (step s 0) = λ f l.
    ⊎_elim (λ (x : WritesFlag f s). absurd (written_found s marks f x (lost f l))) (λ (x : WrittenFirst f n (step s 0)). x) (h f (r.loses f l)).1 in
    (defined_still s marks (λ f l. (h f l).0) w.0, subst (WellDefined n) (sym r.same) (run_defined n (step s 0) r.left later w.1))

pub fewer_marks : FewerMarks
fewer_marks n s marks h w = (run_defined n s marks h w, λ choices. ap observed (run_same n s marks choices).1)
