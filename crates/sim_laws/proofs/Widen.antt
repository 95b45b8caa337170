-- A guest with further regions below an address, and with other values in the flags that are not
-- defined, does the same.
use Rattle.std.proofs.Common.{◌≡◌, ℕ, zero, suc, ◌+◌, ◌-◌, ◌%◌, ◌^◌, ◌<◌, ◌≤◌, Bool, true, false, ◌&&◌, List, [], ◌∷◌, ◌++◌, length, take, drop, map, get_or, Option, Some, None, ◌⊎◌, inl, inr, ⊎_elim, refl, sym, ap, ◌∙◌, subst, arith}
use Rattle.std.specs.Prelude.{option_map, nat_le, nat_eq, if◌then◌else◌}
use Rattle.std.proofs.lemmas.Bool.{lt-leb, leb-true, ne_eqb}
use Rattle.std.proofs.Math.Bool.{and-false}
use Rattle.std.proofs.lemmas.Option.{none-some, same_Some}
use Rattle.br_word.specs.declared.types.Flags.{Flags}
use Rattle.br_word.specs.Memory.{Region, Use, Reads, Writes, Runs, allows, covers, bytes_at, put_over, written, number_of, bytes_of, zeros, load, store, resized}
use Rattle.br_word.specs.State.{Processor, State, RunState, Running, Exited, Faulted, Flag, CF, PF, ZF, SF, OF, flag_of}
use Rattle.ia_inst.specs.Act.{Act, Load, Store, Ask, Divides, Calls, Ends, Change, Keeps, Becomes, IsLeft, Changes, flag_after, mark_after, flags_after, marks_after, Completion, Next, Denied, Divided, Called, or_denied, perform, or_none, asked}
use Rattle.ia_inst.specs.Meaning.{wrap}
use Rattle.ia_inst.specs.System.{answers, buffer, filled, system, StepResult, On, Bad, or_bad}
use Rattle.ia_inst.specs.Step.{Found, NoCode, NoInst, There, found_in, found, act_of, result_of, result_at, step_result, asked_at, settled, unless_stopped, step, AllMarked, NoFault, IsWellDefined}
use Rattle.run_model.specs.Run.{first_choice, run, WellDefined}
use Rattle.sim_laws.specs.Wider.{AllLow, AllHigh, IsHigh, Agree, widen, Follows}

agree_at : (marks a b : Flags) → Agree marks a b → (f : Flag) → flag_of f marks ≡ true → flag_of f a ≡ flag_of f b
agree_at marks a b h CF = h.cf
agree_at marks a b h PF = h.pf
agree_at marks a b h ZF = h.zf
agree_at marks a b h SF = h.sf
agree_at marks a b h OF = h.of

change_agrees : (ch : Change) (m a b x y : Bool) → (m ≡ true → a ≡ b) → mark_after ch m ≡ true → flag_after ch a x ≡ flag_after ch b y
change_agrees Keeps m a b x y h e = h e
change_agrees (Becomes v) m a b x y h e = refl
change_agrees IsLeft m a b x y h e = cc

agree_after : (ch : Changes) (marks a b : Flags) (c d : ℕ) → Agree marks a b → Agree (marks_after ch marks) (flags_after ch a c) (flags_after ch b d)
agree_after ch marks a b c d h = record {
  cf = change_agrees ch.cf _ _ _ _ _ h.cf;
  pf = change_agrees ch.pf _ _ _ _ _ h.pf;
  zf = change_agrees ch.zf _ _ _ _ _ h.zf;
  sf = change_agrees ch.sf _ _ _ _ _ h.sf;
  of = change_agrees ch.of _ _ _ _ _ h.of;
}

and_true_left : (a b : Bool) → (a && b) ≡ true → a ≡ true
and_true_left true b h = refl
and_true_left false b h = h

covers_low : (low at n : ℕ) (r : Region) → r.start + length r.bytes < low → low ≤ at → covers r at n ≡ false
covers_low low at n r h l =
    let e : nat_le (at + n) (r.start + length r.bytes) ≡ false = lt-leb (at + n) (r.start + length r.bytes) (omega arith) in
    ap (λ b. nat_le r.start at && b) e ∙ and-false (nat_le r.start at)

covers_high : (at n : ℕ) (r : Region) (b : Bool) → (covers r at n && b) ≡ true → r.start ≤ at
covers_high at n r b h = leb-true r.start at (and_true_left _ _ (and_true_left _ b h))

-- a choice that is something
chosen : {A : Type 0} (b : Bool) (x : A) (o : Option A) (y : A) → (if b then Some x else o) ≡ Some y → ((b ≡ true) × (x ≡ y)) ⊎ ((b ≡ false) × (o ≡ Some y))
chosen true x o y e = inl (refl, same_Some x y e)
chosen false x o y e = inr (refl, e)

bytes_at_high : (how : Use) (low at n : ℕ) (rs : List Region) (bs : List ℕ) → AllHigh low rs → bytes_at how at n rs ≡ Some bs → low ≤ at
unfolding bytes_at
bytes_at_high how low at n [] bs h e = absurd (none-some bs e)
bytes_at_high how low at n (r ∷ rs) bs h e =
    ⊎_elim (λ t. let k = covers_high at n r (allows how r.perms) t.0 in omega (arith, h.0))
    (λ t. bytes_at_high how low at n rs bs h.1 t.1)
    (chosen (covers r at n && allows how r.perms) (drop (at - r.start) r.bytes) (bytes_at how at n rs) bs e)

bytes_at_more : (how : Use) (low at n : ℕ) (extra rs : List Region) → AllLow low extra → low ≤ at → bytes_at how at n (extra ++ rs) ≡ bytes_at how at n rs
unfolding bytes_at
bytes_at_more how low at n [] rs x l = refl
bytes_at_more how low at n (r ∷ extra) rs x l =
    ap (λ b. if b && allows how r.perms then Some (drop (at - r.start) r.bytes) else bytes_at how at n (extra ++ rs)) (covers_low low at n r x.0 l)
    ∙ bytes_at_more how low at n extra rs x.1 l

-- what is found is found with more regions too
bytes_at_wide : (how : Use) (low at n : ℕ) (extra rs : List Region) (bs : List ℕ) → AllLow low extra → AllHigh low rs → bytes_at how at n rs ≡ Some bs → bytes_at how at n (extra ++ rs) ≡ Some bs
bytes_at_wide how low at n extra rs bs x h e = bytes_at_more how low at n extra rs x (bytes_at_high how low at n rs bs h e) ∙ e

map_some : {A B : Type 0} (f : A → B) (o : Option A) (y : B) → option_map f o ≡ Some y → (x : A) × (o ≡ Some x) × (f x ≡ y)
map_some f None y e = absurd (none-some y e)
map_some f (Some x) y e = (x, refl, same_Some (f x) y e)

load_wide : (low at n : ℕ) (extra rs : List Region) (v : ℕ) → AllLow low extra → AllHigh low rs → load at n rs ≡ Some v → load at n (extra ++ rs) ≡ Some v
load_wide low at n extra rs v x h e =
    let m = map_some (λ bs. number_of (take n bs)) (bytes_at Reads at n rs) v e in
    ap (option_map (λ bs. number_of (take n bs))) (bytes_at_wide Reads low at n extra rs m.0 x h m.1) ∙ ap Some m.2

written_high : (low at : ℕ) (new : List ℕ) (rs rs' : List Region) → AllHigh low rs → written at new rs ≡ Some rs' → (low ≤ at) × AllHigh low rs'
unfolding written
written_high low at new [] rs' h e = absurd (none-some rs' e)
written_high low at new (r ∷ rs) rs' h e =
    ⊎_elim (λ t. let k = covers_high at (length new) r (allows Writes r.perms) t.0 in (omega (arith, h.0), subst (AllHigh low) t.1 h))
    (λ t. let m = map_some (λ rest. r ∷ rest) (written at new rs) rs' t.1 in
    let w = written_high low at new rs m.0 h.1 m.1 in
    (w.0, subst (AllHigh low) m.2 (h.0, w.1)))
    (chosen (covers r at (length new) && allows Writes r.perms) (record r { bytes = put_over r.bytes (at - r.start) new } ∷ rs) (option_map (λ rest. r ∷ rest) (written at new rs)) rs' e)

written_more : (low at : ℕ) (new : List ℕ) (extra rs rs' : List Region) → AllLow low extra → low ≤ at → written at new rs ≡ Some rs' → written at new (extra ++ rs) ≡ Some (extra ++ rs')
unfolding written
written_more low at new [] rs rs' x l e = e
written_more low at new (r ∷ extra) rs rs' x l e =
    ap (λ b. if b && allows Writes r.perms then Some (record r { bytes = put_over r.bytes (at - r.start) new } ∷ (extra ++ rs)) else option_map (λ rest. r ∷ rest) (written at new (extra ++ rs))) (covers_low low at (length new) r x.0 l)
    ∙ ap (option_map (λ rest. r ∷ rest)) (written_more low at new extra rs rs' x.1 l e)

written_wide : (low at : ℕ) (new : List ℕ) (extra rs rs' : List Region) → AllLow low extra → AllHigh low rs → written at new rs ≡ Some rs' → (written at new (extra ++ rs) ≡ Some (extra ++ rs')) × AllHigh low rs'
written_wide low at new extra rs rs' x h e =
    let w = written_high low at new rs rs' h e in
    (written_more low at new extra rs rs' x w.0 e, w.1)

-- where the one does not fault, the other does the same
abbrev pub MatchesEnd : ℕ → List Region → Completion → Completion → Type 0
MatchesEnd low extra (Next u rs to) e = (fl : Flags) × Agree u.marks fl u.flags × AllHigh low rs × (e ≡ Next (record u { flags = fl }) (extra ++ rs) to)
MatchesEnd low extra (Denied at) e = Unit {0}
MatchesEnd low extra Divided e = Unit {0}
MatchesEnd low extra (Called n) e = e ≡ Called n

abbrev pub Matches : ℕ → List Region → StepResult → StepResult → Type 0
Matches low extra (On s) w = (t : State) × (w ≡ On t) × Follows low extra s t
Matches low extra (Bad f) w = Unit {0}

module _ (low : ℕ) (extra : List Region) (x : AllLow low extra) where
  load_case : (marks : Flags) (rs : List Region) (at n : ℕ) (e1 e2 : ℕ → Completion) (fs : ℕ → List Flag) (o : Option ℕ) → AllHigh low rs → load at n rs ≡ o → AllMarked marks (or_none o fs) → ((v : ℕ) → AllMarked marks (fs v) → MatchesEnd low extra (e1 v) (e2 v)) → MatchesEnd low extra (or_denied at o e1) (or_denied at (load at n (extra ++ rs)) e2)
  load_case marks rs at n e1 e2 fs None h e m ih = tt
  load_case marks rs at n e1 e2 fs (Some v) h e m ih =
      subst (λ o. MatchesEnd low extra (e1 v) (or_denied at o e2)) (sym (load_wide low at n extra rs v x h e)) (ih v m)

  store_case : (marks : Flags) (rs : List Region) (at : ℕ) (new : List ℕ) (e1 e2 : List Region → Completion) (fs : List Region → List Flag) (o : Option (List Region)) → AllHigh low rs → written at new rs ≡ o → AllMarked marks (or_none o fs) → ((rs' : List Region) → AllHigh low rs' → AllMarked marks (fs rs') → MatchesEnd low extra (e1 rs') (e2 (extra ++ rs'))) → MatchesEnd low extra (or_denied at o e1) (or_denied at (written at new (extra ++ rs)) e2)
  store_case marks rs at new e1 e2 fs None h e m ih = tt
  store_case marks rs at new e1 e2 fs (Some rs') h e m ih =
      let w = written_wide low at new extra rs rs' x h e in
      subst (λ o. MatchesEnd low extra (e1 rs') (or_denied at o e2)) (sym w.0) (ih rs' w.1 m)

  -- any act at all
  pub perform_more : (a : Act) (u : Processor) (fl : Flags) (rs : List Region) (c : ℕ) → AllHigh low rs → Agree u.marks fl u.flags → AllMarked u.marks (asked a u.flags rs) → MatchesEnd low extra (perform a 0 u rs) (perform a c (record u { flags = fl }) (extra ++ rs))
  perform_more (Load at n k) u fl rs c h g m =
      load_case u.marks rs at n _ _ (λ v. asked (k v) u.flags rs) (load at n rs) h refl m (λ v m'. perform_more (k v) u fl rs c h g m')
  perform_more (Store at n v a) u fl rs c h g m =
      store_case u.marks rs at (bytes_of n v) _ _ (λ rs. asked a u.flags rs) (store at n v rs) h refl m
      (λ rs h' m'. perform_more a u fl rs c h' g m')
  perform_more (Ask f k) u fl rs c h g m =
      subst (λ b. MatchesEnd low extra (perform (k (flag_of f u.flags)) 0 u rs) (perform (k b) c (record u { flags = fl }) (extra ++ rs))) (sym (agree_at u.marks fl u.flags g f m.0))
      (perform_more (k (flag_of f u.flags)) u fl rs c h g m.1)
  perform_more Divides u fl rs c h g m = tt
  perform_more (Calls n) u fl rs c h g m = refl
  perform_more (Ends regs df ch to) u fl rs c h g m = (flags_after ch fl c, agree_after ch u.marks fl u.flags c 0 g, h, refl)

  or_case : {X Y : Type 0} (at : ℕ) (o : Option X) (o' : Option Y) (e : X → StepResult) (e' : Y → StepResult) → ((v : X) → o ≡ Some v → (v' : Y) × (o' ≡ Some v') × Matches low extra (e v) (e' v')) → Matches low extra (or_bad at o e) (or_bad at o' e')
  or_case at None o' e e' h = tt
  or_case at (Some v) o' e e' h =
      let r = h v refl in
      subst (λ o. Matches low extra (e v) (or_bad at o e')) (sym r.1) r.2

  either_way : (b : Bool) (d e d' e' : StepResult) → Matches low extra d d' → Matches low extra e e' → Matches low extra (if b then d else e) (if b then d' else e')
  either_way true d e d' e' h k = h
  either_way false d e d' e' h k = k

  buffer_wide : (at n : ℕ) (rs : List Region) (bs : List ℕ) → AllHigh low rs → buffer at n rs ≡ Some bs → buffer at n (extra ++ rs) ≡ Some bs
  buffer_wide at n rs bs h e = go (nat_eq n 0) e
    where
      go : (b : Bool) → (if b then Some [] else option_map (λ bs. take n bs) (bytes_at Reads at n rs)) ≡ Some bs → (if b then Some [] else option_map (λ bs. take n bs) (bytes_at Reads at n (extra ++ rs))) ≡ Some bs
      go true e = e
      go false e =
          let m = map_some (λ bs. take n bs) (bytes_at Reads at n rs) bs e in
          ap (option_map (λ bs. take n bs)) (bytes_at_wide Reads low at n extra rs m.0 x h m.1) ∙ ap Some m.2

  filled_wide : (at : ℕ) (new : List ℕ) (rs rs' : List Region) → AllHigh low rs → filled at new rs ≡ Some rs' → (filled at new (extra ++ rs) ≡ Some (extra ++ rs')) × AllHigh low rs'
  filled_wide at new rs rs' h e = go (nat_eq (length new) 0) e
    where
      go : (b : Bool) → (if b then Some rs else written at new rs) ≡ Some rs' → ((if b then Some (extra ++ rs) else written at new (extra ++ rs)) ≡ Some (extra ++ rs')) × AllHigh low rs'
      go true e = (ap (λ rs. Some (extra ++ rs)) (same_Some rs rs' e), subst (AllHigh low) (same_Some rs rs' e) h)
      go false e = written_wide low at new extra rs rs' x h e

  resized_low : (start size : ℕ) (es rs : List Region) → AllLow low es → low ≤ start → map (resized start size) (es ++ rs) ≡ es ++ map (resized start size) rs
  resized_low start size [] rs l h = refl
  resized_low start size (r ∷ es) rs l h =
      let e : nat_eq r.start start ≡ false = ne_eqb r.start start (omega (arith, l.0)) in
      ap (λ b. (if b then record r { bytes = take size (r.bytes ++ zeros size) } else r) ∷ map (resized start size) (es ++ rs)) e
      ∙ ap (λ l. r ∷ l) (resized_low start size es rs l.1 h)

  resized_high : (start size : ℕ) (rs : List Region) → AllHigh low rs → AllHigh low (map (resized start size) rs)
  resized_high start size [] h = tt
  resized_high start size (r ∷ rs) h = (go (nat_eq r.start start), resized_high start size rs h.1)
    where
      go : (b : Bool) → low ≤ (if b then record r { bytes = take size (r.bytes ++ zeros size) } else r).start
      go true = h.0
      go false = h.0

  -- the same, but for the flags, and for the regions
  next_same : (s : State) (fl : Flags) → IsHigh low s → Agree s.cpu.marks fl s.cpu.flags → Matches low extra (On s) (On (widen extra fl s))
  next_same s fl h g = (_, refl, record { flags = fl; agree = g; high = h; same = refl })

  system_more : (next : ℕ) (s : State) (fl : Flags) → IsHigh low s → Agree s.cpu.marks fl s.cpu.flags → Matches low extra (system next s) (system next (widen extra fl s))
  unfolding system
  system_more next s fl h g =
      let same = λ (t : State) (k : IsHigh low t) (a : Agree t.cpu.marks fl t.cpu.flags). next_same t fl k a in
      let high : IsHigh low s = record { regions = h.regions; brk = h.brk } in
      let ecx = get_or s.cpu.regs 1 0 in
      let edx = get_or s.cpu.regs 2 0 in
      let to = get_or s.cpu.regs 3 0 in
      let new = take edx s.input in
      either_way (nat_eq (get_or s.cpu.regs 0 0) 1) _ _ _ _ (next_same (record s { eip = next; stop = Exited (to % 256) }) fl (record { regions = h.regions; brk = h.brk }) g)
      (either_way (nat_eq (get_or s.cpu.regs 0 0) 3) _ _ _ _
      (either_way (nat_eq to 0) _ _ _ _
      (or_case ecx (filled ecx new s.regions) (filled ecx new (extra ++ s.regions)) _ _ (λ rs e.
      let w = filled_wide ecx new s.regions rs h.regions e in
      (_, w.0, next_same (record (answers (length new) next s) { regions = rs; input = drop (length new) s.input }) fl (record { regions = w.1; brk = h.brk }) g)))
      (next_same (answers (2 ^ 32 - 9) next s) fl (record { regions = h.regions; brk = h.brk }) g))
      (either_way (nat_eq (get_or s.cpu.regs 0 0) 4) _ _ _ _
      (either_way (nat_eq to 1) _ _ _ _
      (or_case ecx (buffer ecx edx s.regions) (buffer ecx edx (extra ++ s.regions)) _ _ (λ bs e.
      (bs, buffer_wide ecx edx s.regions bs h.regions e, next_same (record (answers edx next s) { out = s.out ++ bs }) fl (record { regions = h.regions; brk = h.brk }) g)))
      (either_way (nat_eq to 2) _ _ _ _
      (or_case ecx (buffer ecx edx s.regions) (buffer ecx edx (extra ++ s.regions)) _ _ (λ bs e.
      (bs, buffer_wide ecx edx s.regions bs h.regions e, next_same (record (answers edx next s) { err = s.err ++ bs }) fl (record { regions = h.regions; brk = h.brk }) g)))
      (next_same (answers (2 ^ 32 - 9) next s) fl (record { regions = h.regions; brk = h.brk }) g)))
      (either_way (nat_eq (get_or s.cpu.regs 0 0) 45) _ _ _ _
      (either_way (nat_le s.brk_start to && nat_le to (s.brk_start + 67108864)) _ _ _ _
      (subst (λ rs. Matches low extra (On (record (answers to next s) { brk = to; regions = map (resized s.brk_start (to - s.brk_start)) s.regions })) (On (record (answers to next (widen extra fl s)) { brk = to; regions = rs })))
      (sym (resized_low s.brk_start (to - s.brk_start) extra s.regions x h.brk))
      (next_same (record (answers to next s) { brk = to; regions = map (resized s.brk_start (to - s.brk_start)) s.regions }) fl (record { regions = resized_high s.brk_start (to - s.brk_start) s.regions h.regions; brk = h.brk }) g))
      (next_same (answers s.brk next s) fl (record { regions = h.regions; brk = h.brk }) g))
      (next_same (answers (2 ^ 32 - 38) next s) fl (record { regions = h.regions; brk = h.brk }) g))))

  way_more : (e e' : Completion) (s : State) (fl : Flags) → IsHigh low s → Agree s.cpu.marks fl s.cpu.flags → MatchesEnd low extra e e' → Matches low extra (result_of e s) (result_of e' (widen extra fl s))
  way_more (Next u rs to) e' s fl h g m =
      (_, ap (λ e. result_of e (widen extra fl s)) m.3, record { flags = m.0; agree = m.1; high = record { regions = m.2; brk = h.brk }; same = refl })
  way_more (Denied at) e' s fl h g m = tt
  way_more Divided e' s fl h g m = tt
  way_more (Called n) e' s fl h g m =
      subst (λ e. Matches low extra (system (wrap (s.eip + n)) s) (result_of e (widen extra fl s))) (sym m) (system_more (wrap (s.eip + n)) s fl h g)

  -- where there is an instruction, there is the same one
  found_more : (s : State) (o : Option (List ℕ)) → AllHigh low s.regions → bytes_at Runs s.eip 1 s.regions ≡ o → NoFault (result_at (found_in o) s 0) → found s.eip (extra ++ s.regions) ≡ found_in o
  found_more s None h e n = absurd n
  found_more s (Some bs) h e n = ap found_in (bytes_at_wide Runs low s.eip 1 extra s.regions bs x h e)

  way_at_more : (f : Found) (s : State) (fl : Flags) (c : ℕ) → IsHigh low s → Agree s.cpu.marks fl s.cpu.flags → AllMarked s.cpu.marks (asked_at f s) → Matches low extra (result_at f s 0) (result_at f (widen extra fl s) c)
  way_at_more NoCode s fl c h g m = tt
  way_at_more NoInst s fl c h g m = tt
  way_at_more (There i n) s fl c h g m =
      way_more (perform (act_of i n s) 0 s.cpu s.regions) (perform (act_of i n s) c (record (s.cpu) { flags = fl }) (extra ++ s.regions)) s fl h g (perform_more (act_of i n s) s.cpu fl s.regions c h.regions g m)

  step_way_more : (s : State) (fl : Flags) (c : ℕ) → IsHigh low s → Agree s.cpu.marks fl s.cpu.flags → NoFault (step_result s 0) → AllMarked s.cpu.marks (asked_at (found s.eip s.regions) s) → Matches low extra (step_result s 0) (step_result (widen extra fl s) c)
  step_way_more s fl c h g n m =
      subst (λ f. Matches low extra (step_result s 0) (result_at f (widen extra fl s) c)) (sym (found_more s (bytes_at Runs s.eip 1 s.regions) h.regions refl n))
      (way_at_more (found s.eip s.regions) s fl c h g m)

  settled_more : (w w' : StepResult) (s : State) (fl : Flags) → NoFault w → Matches low extra w w' → Follows low extra (settled w s) (settled w' (widen extra fl s))
  settled_more (On t) w' s fl n m = subst (λ w. Follows low extra t (settled w (widen extra fl s))) (sym m.1) m.2
  settled_more (Bad f) w' s fl n m = absurd n

  step_more : (s : State) (fl : Flags) (c : ℕ) → IsHigh low s → Agree s.cpu.marks fl s.cpu.flags → IsWellDefined s → Follows low extra (step s 0) (step (widen extra fl s) c)
  unfolding step
  step_more s fl c h g f = go s.stop refl
    where
      go : (stop : RunState) → s.stop ≡ stop → Follows low extra (unless_stopped stop s (settled (step_result s 0) s)) (unless_stopped stop (widen extra fl s) (settled (step_result (widen extra fl s) c) (widen extra fl s)))
      go Running e = settled_more (step_result s 0) (step_result (widen extra fl s) c) s fl (f.no_fault e) (step_way_more s fl c h g (f.no_fault e) (f.marked e))
      go (Exited n) e = record { flags = fl; agree = g; high = h; same = refl }
      go (Faulted v) e = record { flags = fl; agree = g; high = h; same = refl }

  -- a whole run, under any choices
  pub run_more : (n : ℕ) (s : State) (fl : Flags) (cs : List ℕ) → IsHigh low s → Agree s.cpu.marks fl s.cpu.flags → WellDefined n s → Follows low extra (run n s []) (run n (widen extra fl s) cs)
  run_more zero s fl cs h g f = record { flags = fl; agree = g; high = h; same = refl }
  run_more (suc n) s fl cs h g f =
      let r = step_more s fl (first_choice cs) h g f.0 in
      subst (λ t. Follows low extra (run n (step s 0) []) (run n t (drop 1 cs))) (sym r.same)
      (run_more n (step s 0) r.flags (drop 1 cs) r.high r.agree f.1)

pub every_high : (rs : List Region) → AllHigh 0 rs
every_high [] = tt
every_high (r ∷ rs) = (omega arith, every_high rs)
