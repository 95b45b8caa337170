-- One step of a guest, and the same step of a wider one, at the same place or at another.
use Rattle.std.proofs.Common.{◌≡◌, ℕ, ◌+◌, ◌-◌, ◌%◌, ◌^◌, Bool, true, false, ◌&&◌, List, ◌++◌, length, take, drop, map, get_or, Option, Some, None, refl, sym, ap, subst}
use Rattle.std.specs.Prelude.{nat_le, nat_eq, if◌then◌else◌}
use Rattle.br_word.specs.declared.types.Flags.{Flags}
use Rattle.ia_inst.specs.declared.inst.Inst.{Inst}
use Rattle.br_word.specs.Memory.{Region, written, bytes_of, load, store, resized}
use Rattle.br_word.specs.State.{Processor, State, RunState, Running, Exited, Flag, flag_of}
use Rattle.ia_inst.specs.Act.{NextEip, Past, Act, Load, Store, Ask, Divides, Calls, Ends, flags_after, marks_after, Completion, Next, Denied, Divided, Called, or_denied, perform, or_none, asked}
use Rattle.ia_inst.specs.Meaning.{wrap, meaning}
use Rattle.ia_inst.specs.System.{answers, buffer, filled, system, StepResult, On, Bad, or_bad}
use Rattle.ia_inst.specs.Step.{There, found, act_of, next_eip, result_of, result_at, step_result, asked_at, settled, unless_stopped, step, AllMarked, NoFault, IsWellDefined}
use Rattle.sim_laws.specs.Wider.{AllLow, AllHigh, Agree, IsHigh}
use Rattle.sim_runs.proofs.Widen.{agree_after, agree_at, load_wide, written_wide, buffer_wide, filled_wide, resized_low, resized_high}
use Rattle.sim_runs.specs.Native.{placed, AllEnds}

module _ (low : ℕ) (extra : List Region) (x : AllLow low extra) (Eips : ℕ → ℕ → Type 0) where
  -- the wider guest comes to a state like this one's
  pub record Beside (s t : State) : Type 0 where
    pub flags : Flags
    pub marks : Flags
    pub at : ℕ
    pub agree : Agree s.cpu.marks flags s.cpu.flags
    pub high : IsHigh low s
    pub eips : Eips s.eip at
    pub same : t ≡ placed extra flags marks at s

  abbrev MatchesEnd : (NextEip → Type 0) → Completion → Completion → Type 0
  MatchesEnd P (Next u rs to) e = (fl : Flags) × (mk : Flags) × Agree u.marks fl u.flags × AllHigh low rs × P to × (e ≡ Next (record u { flags = fl; marks = mk }) (extra ++ rs) to)
  MatchesEnd P (Denied at) e = Unit {0}
  MatchesEnd P Divided e = Unit {0}
  MatchesEnd P (Called n) e = P (Past n) × (e ≡ Called n)

  abbrev Matches : StepResult → StepResult → Type 0
  Matches (On s) w = (t : State) × (w ≡ On t) × Beside s t
  Matches (Bad f) w = Unit {0}

  load_case : (P : NextEip → Type 0) (marks : Flags) (rs : List Region) (at n : ℕ) (e1 e2 : ℕ → Completion) (fs : ℕ → List Flag) (o : Option ℕ) → AllHigh low rs → load at n rs ≡ o → AllMarked marks (or_none o fs) → ((v : ℕ) → AllMarked marks (fs v) → MatchesEnd P (e1 v) (e2 v)) → MatchesEnd P (or_denied at o e1) (or_denied at (load at n (extra ++ rs)) e2)
  load_case P marks rs at n e1 e2 fs None h e m ih = tt
  load_case P marks rs at n e1 e2 fs (Some v) h e m ih =
      subst (λ o. MatchesEnd P (e1 v) (or_denied at o e2)) (sym (load_wide low at n extra rs v x h e)) (ih v m)

  store_case : (P : NextEip → Type 0) (marks : Flags) (rs : List Region) (at : ℕ) (new : List ℕ) (e1 e2 : List Region → Completion) (fs : List Region → List Flag) (o : Option (List Region)) → AllHigh low rs → written at new rs ≡ o → AllMarked marks (or_none o fs) → ((rs' : List Region) → AllHigh low rs' → AllMarked marks (fs rs') → MatchesEnd P (e1 rs') (e2 (extra ++ rs'))) → MatchesEnd P (or_denied at o e1) (or_denied at (written at new (extra ++ rs)) e2)
  store_case P marks rs at new e1 e2 fs None h e m ih = tt
  store_case P marks rs at new e1 e2 fs (Some rs') h e m ih =
      let w = written_wide low at new extra rs rs' x h e in
      subst (λ o. MatchesEnd P (e1 rs') (or_denied at o e2)) (sym w.0) (ih rs' w.1 m)

  pub perform_beside : (P : NextEip → Type 0) (a : Act) (u : Processor) (fl mk : Flags) (rs : List Region) (c : ℕ) → AllEnds P a → AllHigh low rs → Agree u.marks fl u.flags → AllMarked u.marks (asked a u.flags rs) → MatchesEnd P (perform a 0 u rs) (perform a c (record u { flags = fl; marks = mk }) (extra ++ rs))
  perform_beside P (Load at n k) u fl mk rs c p h g m =
      load_case P u.marks rs at n _ _ (λ v. asked (k v) u.flags rs) (load at n rs) h refl m (λ v m'. perform_beside P (k v) u fl mk rs c (p v) h g m')
  perform_beside P (Store at n v a) u fl mk rs c p h g m =
      store_case P u.marks rs at (bytes_of n v) _ _ (λ rs. asked a u.flags rs) (store at n v rs) h refl m
      (λ rs h' m'. perform_beside P a u fl mk rs c p h' g m')
  perform_beside P (Ask f k) u fl mk rs c p h g m =
      subst (λ b. MatchesEnd P (perform (k (flag_of f u.flags)) 0 u rs) (perform (k b) c (record u { flags = fl; marks = mk }) (extra ++ rs))) (sym (agree_at u.marks fl u.flags g f m.0))
      (perform_beside P (k (flag_of f u.flags)) u fl mk rs c (p (flag_of f u.flags)) h g m.1)
  perform_beside P Divides u fl mk rs c p h g m = tt
  perform_beside P (Calls n) u fl mk rs c p h g m = (p, refl)
  perform_beside P (Ends regs df ch to) u fl mk rs c p h g m = (flags_after ch fl c, marks_after ch mk, agree_after ch u.marks fl u.flags c 0 g, h, p, refl)

  or_case : {X Y : Type 0} (at : ℕ) (o : Option X) (o' : Option Y) (e : X → StepResult) (e' : Y → StepResult) → ((v : X) → o ≡ Some v → (v' : Y) × (o' ≡ Some v') × Matches (e v) (e' v')) → Matches (or_bad at o e) (or_bad at o' e')
  or_case at None o' e e' h = tt
  or_case at (Some v) o' e e' h =
      let r = h v refl in
      subst (λ o. Matches (e v) (or_bad at o e')) (sym r.1) r.2

  either_way : (b : Bool) (d e d' e' : StepResult) → Matches d d' → Matches e e' → Matches (if b then d else e) (if b then d' else e')
  either_way true d e d' e' h k = h
  either_way false d e d' e' h k = k

  next_same : (s : State) (fl mk : Flags) (at : ℕ) → IsHigh low s → Agree s.cpu.marks fl s.cpu.flags → Eips s.eip at → Matches (On s) (On (placed extra fl mk at s))
  next_same s fl mk at h g e = (_, refl, record { flags = fl; marks = mk; at = at; agree = g; high = h; eips = e; same = refl })

  system_beside : (next next' at : ℕ) (s : State) (fl mk : Flags) → IsHigh low s → Agree s.cpu.marks fl s.cpu.flags → Eips next next' → Matches (system next s) (system next' (placed extra fl mk at s))
  unfolding system
  system_beside next next' at s fl mk h g z =
      let ecx = get_or s.cpu.regs 1 0 in
      let edx = get_or s.cpu.regs 2 0 in
      let to = get_or s.cpu.regs 3 0 in
      let new = take edx s.input in
      either_way (nat_eq (get_or s.cpu.regs 0 0) 1) _ _ _ _ (next_same (record s { eip = next; stop = Exited (to % 256) }) fl mk next' (record { regions = h.regions; brk = h.brk }) g z)
      (either_way (nat_eq (get_or s.cpu.regs 0 0) 3) _ _ _ _
      (either_way (nat_eq to 0) _ _ _ _
      (or_case ecx (filled ecx new s.regions) (filled ecx new (extra ++ s.regions)) _ _ (λ rs e.
      let w = filled_wide low extra x ecx new s.regions rs h.regions e in
      (_, w.0, next_same (record (answers (length new) next s) { regions = rs; input = drop (length new) s.input }) fl mk next' (record { regions = w.1; brk = h.brk }) g z)))
      (next_same (answers (2 ^ 32 - 9) next s) fl mk next' (record { regions = h.regions; brk = h.brk }) g z))
      (either_way (nat_eq (get_or s.cpu.regs 0 0) 4) _ _ _ _
      (either_way (nat_eq to 1) _ _ _ _
      (or_case ecx (buffer ecx edx s.regions) (buffer ecx edx (extra ++ s.regions)) _ _ (λ bs e.
      (bs, buffer_wide low extra x ecx edx s.regions bs h.regions e, next_same (record (answers edx next s) { out = s.out ++ bs }) fl mk next' (record { regions = h.regions; brk = h.brk }) g z)))
      (either_way (nat_eq to 2) _ _ _ _
      (or_case ecx (buffer ecx edx s.regions) (buffer ecx edx (extra ++ s.regions)) _ _ (λ bs e.
      (bs, buffer_wide low extra x ecx edx s.regions bs h.regions e, next_same (record (answers edx next s) { err = s.err ++ bs }) fl mk next' (record { regions = h.regions; brk = h.brk }) g z)))
      (next_same (answers (2 ^ 32 - 9) next s) fl mk next' (record { regions = h.regions; brk = h.brk }) g z)))
      (either_way (nat_eq (get_or s.cpu.regs 0 0) 45) _ _ _ _
      (either_way (nat_le s.brk_start to && nat_le to (s.brk_start + 67108864)) _ _ _ _
      (subst (λ rs. Matches (On (record (answers to next s) { brk = to; regions = map (resized s.brk_start (to - s.brk_start)) s.regions })) (On (record (answers to next' (placed extra fl mk at s)) { brk = to; regions = rs })))
      (sym (resized_low low extra x s.brk_start (to - s.brk_start) extra s.regions x h.brk))
      (next_same (record (answers to next s) { brk = to; regions = map (resized s.brk_start (to - s.brk_start)) s.regions }) fl mk next' (record { regions = resized_high low extra x s.brk_start (to - s.brk_start) s.regions h.regions; brk = h.brk }) g z))
      (next_same (answers s.brk next s) fl mk next' (record { regions = h.regions; brk = h.brk }) g z))
      (next_same (answers (2 ^ 32 - 38) next s) fl mk next' (record { regions = h.regions; brk = h.brk }) g z))))

  way_beside : (e e' : Completion) (s : State) (fl mk : Flags) (at : ℕ) → IsHigh low s → Agree s.cpu.marks fl s.cpu.flags → MatchesEnd (λ to. Eips (next_eip to s.eip) (next_eip to at)) e e' → Matches (result_of e s) (result_of e' (placed extra fl mk at s))
  way_beside (Next u rs to) e' s fl mk at h g m =
      (_, ap (λ e. result_of e (placed extra fl mk at s)) m.5, record { flags = m.0; marks = m.1; at = next_eip to at; agree = m.2; high = record { regions = m.3; brk = h.brk }; eips = m.4; same = refl })
  way_beside (Denied d) e' s fl mk at h g m = tt
  way_beside Divided e' s fl mk at h g m = tt
  way_beside (Called n) e' s fl mk at h g m =
      subst (λ e. Matches (system (wrap (s.eip + n)) s) (result_of e (placed extra fl mk at s))) (sym m.1) (system_beside (wrap (s.eip + n)) (wrap (at + n)) at s fl mk h g m.0)

  -- one step at the same instruction
  pub step_beside : (s : State) (fl mk : Flags) (at c : ℕ) (i : Inst) (n : ℕ) → s.stop ≡ Running → IsWellDefined s → IsHigh low s → Agree s.cpu.marks fl s.cpu.flags → found s.eip s.regions ≡ There i n → found at (extra ++ s.regions) ≡ There i n → meaning i n s.cpu.regs at s.cpu.df ≡ meaning i n s.cpu.regs s.eip s.cpu.df → AllEnds (λ to. Eips (next_eip to s.eip) (next_eip to at)) (act_of i n s) → Beside (step s 0) (step (placed extra fl mk at s) c)
  unfolding step
  step_beside s fl mk at c i n goes fine h g fs ft same ends = go s.stop goes (fine.no_fault goes) (fine.marked goes)
    where
      there : AllMarked s.cpu.marks (asked_at (There i n) s) → Matches (result_at (There i n) s 0) (step_result (placed extra fl mk at s) c)
      there m =
          rw (ft, same) (way_beside (perform (act_of i n s) 0 s.cpu s.regions) (perform (act_of i n s) c (record (s.cpu) { flags = fl; marks = mk }) (extra ++ s.regions)) s fl mk at h g (perform_beside _ (act_of i n s) s.cpu fl mk s.regions c ends h.regions g m))

      settle : (w w' : StepResult) → NoFault w → Matches w w' → Beside (settled w s) (settled w' (placed extra fl mk at s))
      settle (On t) w' n m = subst (λ w. Beside t (settled w (placed extra fl mk at s))) (sym m.1) m.2
      settle (Bad f) w' n m = absurd n

      go : (stop : RunState) → stop ≡ Running → NoFault (step_result s 0) → AllMarked s.cpu.marks (asked_at (found s.eip s.regions) s) → Beside (unless_stopped stop s (settled (step_result s 0) s)) (unless_stopped stop (placed extra fl mk at s) (settled (step_result (placed extra fl mk at s) c) (placed extra fl mk at s)))
      go stop e nf m = rw e (settle (step_result s 0) (step_result (placed extra fl mk at s) c) nf (subst (λ f. Matches (result_at f s 0) (step_result (placed extra fl mk at s) c)) (sym fs) (there (subst (λ f. AllMarked s.cpu.marks (asked_at f s)) fs m))))
