-- One move of the relation.
use Rattle.std.proofs.Common.{◌≡◌, ℕ, zero, suc, ◌+◌, ◌-◌, ◌<◌, ◌≤◌, true, false, List, [], ◌++◌, length, get_or, drop, Option, Some, None, refl, sym, ap, ◌∙◌, subst, arith, ⊎_elim, ◌⊎◌, inl, inr}
use Rattle.std.proofs.lemmas.Bool.{cases_lt, cases_Bool}
use Rattle.br_word.specs.declared.types.Flags.{Flags}
use Rattle.ia_inst.specs.declared.inst.Inst.{Inst}
use Rattle.br_word.specs.Memory.{Region, Runs, bytes_at}
use Rattle.br_word.specs.State.{State, Running, Flag, flag_of, CF, PF, ZF, SF, OF}
use Rattle.run_model.specs.Run.{Observation, observed, first_choice, run}
use Rattle.ia_inst.specs.Act.{NextEip, Past, Again, Act, Load, Store, Ask, Divides, Calls, Ends}
use Rattle.ia_inst.specs.Meaning.{wrap, meaning}
use Rattle.ia_inst.specs.Instructions.{decode_of}
use Rattle.ia_inst.specs.Step.{step, IsWellDefined, NoFault, There, found, found_in, found_from, result_at, act_of, next_eip}
use Rattle.sim_laws.specs.Wider.{AllLow, AllHigh, Agree, IsHigh}
use Rattle.sim_runs.proofs.Widen.{bytes_at_wide, agree_at}
use Rattle.sim_runs.specs.Forward.{after, AllGood, Moved, Short}
use Rattle.sim_runs.specs.Native.{placed, AllEnds}
use Rattle.br_word.specs.Words.{bit}
use Rattle.ssa_form.specs.Agree.{number, AgreesOn, every}
use Rattle.sim_runs.specs.Passes.{Gets}
use Rattle.sim_runs.specs.Relation.{Plan, extra_of, at_home, AtBlock, Ready, IsBeside, InCopy, AtNative, IsOver, Over, Related, at_block, at_native, at_copy, gone, over, doomed}
use Rattle.sim_runs.specs.Laws.{Leads, Lifted, Arrives, Leaves, Opens, Captured, past, Original, Laid, Starts, PlainLaws, IslandLaws, Landed, in_block, in_copy, nowhere, After, in_place, lands, leaves, stops, CopyLaws}
use Rattle.sim_runs.specs.Leaving.{Claim}
use Rattle.sim_runs.proofs.Runs.{run_on, good_less}
use Rattle.sim_runs.proofs.Native.{Beside, step_beside}
use Rattle.sim_runs.proofs.Same.{restored_wider, overlay, overlay_on, overlay_agrees, overlay_bits, stays, is_over, bit_small}

pub all_ends : (P : NextEip → Type 0) → ((to : NextEip) → P to) → (a : Act) → AllEnds P a
all_ends P h (Load at n k) = λ v. all_ends P h (k v)
all_ends P h (Store at n v a) = all_ends P h a
all_ends P h (Ask f k) = λ b. all_ends P h (k b)
all_ends P h Divides = tt
all_ends P h (Calls n) = h (Past n)
all_ends P h (Ends regs df ch to) = h to

ends_map : (P Q : NextEip → Type 0) → ((to : NextEip) → P to → Q to) → (a : Act) → AllEnds P a → AllEnds Q a
ends_map P Q f (Load at n k) h = λ v. ends_map P Q f (k v) (h v)
ends_map P Q f (Store at n v a) h = ends_map P Q f a h
ends_map P Q f (Ask g k) h = λ b. ends_map P Q f (k b) (h b)
ends_map P Q f Divides h = tt
ends_map P Q f (Calls n) h = f (Past n) h
ends_map P Q f (Ends regs df ch to) h = f to h

pub all_map : (P Q : State → Type 0) → ((s : State) → P s → Q s) → (n : ℕ) (s : State) → AllGood P n s → AllGood Q n s
all_map P Q f zero s g = tt
all_map P Q f (suc n) s g = (f s g.0, all_map P Q f n (step s 0) g.1)

pub extra_low : (plan : Plan) (own : List ℕ) → plan.code.start + length plan.code.bytes ≤ 0x07000000 → length own ≡ 65536 → AllLow 0x08000000 (extra_of plan own)
extra_low plan own l e = (omega arith, (omega (arith, e), tt))

-- a step that is fine has an instruction, and a wider guest has the same
pub record Instruction (extra : List Region) (s : State) : Type 0 where
  pub inst : Inst
  pub len : ℕ
  pub here : found s.eip s.regions ≡ There inst len
  pub there : found s.eip (extra ++ s.regions) ≡ There inst len

pub fine_found : (extra : List Region) (s : State) → AllLow 0x08000000 extra → AllHigh 0x08000000 s.regions → s.stop ≡ Running → IsWellDefined s → Instruction extra s
fine_found extra s x h g f = at_bytes (bytes_at Runs s.eip 1 s.regions) refl
  where
    at_inst : (bs : List ℕ) (o : Option (Inst × ℕ)) → bytes_at Runs s.eip 1 s.regions ≡ Some bs → decode_of bs ≡ o → NoFault (result_at (found_from o) s 0) → Instruction extra s
    at_inst bs None e d n = absurd n
    at_inst bs (Some i) e d n = record {
      inst = i.0;
      len = i.1;
      here = ap found_in e ∙ ap found_from d;
      there = ap found_in (bytes_at_wide Runs 0x08000000 s.eip 1 extra s.regions bs x h e) ∙ ap found_from d;
    }

    at_bytes : (o : Option (List ℕ)) → bytes_at Runs s.eip 1 s.regions ≡ o → Instruction extra s
    at_bytes None e = absurd (subst (λ o. NoFault (result_at (found_in o) s 0)) e (f.no_fault g))
    at_bytes (Some bs) e = at_inst bs (decode_of bs) e refl (subst (λ o. NoFault (result_at (found_in o) s 0)) e (f.no_fault g))

module _ (R : State → State → Type 0) (W : State → Type 0) (alike : (s t : State) → R s t → observed t ≡ observed s) where
  -- one step of both
  pub one_step : (high left : ℕ) (s t : State) (cs : List ℕ) → 0 < left → 0 < high → observed t ≡ observed s → W t → R (step s 0) (step t (first_choice cs)) → Moved R W high left s t cs
  one_step high left s t cs l h e w r = record {
    took = 1;
    steps = 1;
    some = omega arith;
    few = omega arith;
    in_time = omega arith;
    going = omega arith;
    bound = omega arith;
    shows = shown;
    quiet = still;
    next = r;
  }
    where
      shown : (i : ℕ) → i ≤ 1 → (j : ℕ) × (j ≤ 1) × (observed (run i t cs) ≡ observed (run j s []))
      shown zero k = (0, omega arith, e)
      shown (suc zero) k = (1, omega arith, alike _ _ r)
      shown (suc (suc i)) k = absurd (omega arith)

      still : (i : ℕ) → i < 1 → W (run i t cs)
      still zero k = w
      still (suc i) k = absurd (omega arith)

  module _ (low : (t : State) → t.eip < 0x07000000 → W t) where
    -- one step of both, and then more of recovered code
    pub step_then : (P : State → Type 0) (high left : ℕ) (s t : State) (cs : List ℕ) → 0 < left → observed t ≡ observed s → W t → observed (step t (first_choice cs)) ≡ observed (step s 0) → (l : Leads P high (step t (first_choice cs)) (drop 1 cs)) → R (step s 0) (run l.steps (step t (first_choice cs)) (drop 1 cs)) → Moved R W (1 + high) left s t cs
    step_then P high left s t cs lt e w e1 l r = record {
      took = 1;
      steps = suc l.steps;
      some = omega arith;
      few = omega arith;
      in_time = omega arith;
      going = omega arith;
      bound = omega (arith, l.bound);
      shows = shown;
      quiet = still;
      next = r;
    }
      where
        shown : (i : ℕ) → i ≤ suc l.steps → (j : ℕ) × (j ≤ 1) × (observed (run i t cs) ≡ observed (run j s []))
        shown zero k = (0, omega arith, e)
        shown (suc i) k = (1, omega arith, l.shows i (omega arith) ∙ e1)

        still : (i : ℕ) → i < suc l.steps → W (run i t cs)
        still zero k = w
        still (suc i) k = low _ (l.inside i (omega arith))

    -- recovered code, and then a move
    pub lead_first : (P : State → Type 0) (h high left : ℕ) (s t : State) (cs : List ℕ) → observed t ≡ observed s → (l : Leads P h t cs) → Moved R W high left s (run l.steps t cs) (after l.steps cs) → Moved R W (h + high) left s t cs
    lead_first P h high left s t cs e l m = record {
      took = m.took;
      steps = l.steps + m.steps;
      some = m.some;
      few = m.few;
      in_time = m.in_time;
      going = omega (arith, l.going);
      bound = omega (arith, l.bound, m.bound);
      shows = λ i k. ⊎_elim
          (λ (b : i < l.steps). (0, omega arith, l.shows i (omega arith) ∙ e))
          (λ (b : l.steps ≤ i). let q = m.shows (i - l.steps) (omega arith) in (q.0, q.1, ap observed (later i b) ∙ q.2))
          (cases_lt i l.steps);
      quiet = λ i k. ⊎_elim
          (λ (b : i < l.steps). low _ (l.inside i b))
          (λ (b : l.steps ≤ i). subst W (sym (later i b)) (m.quiet (i - l.steps) (omega arith)))
          (cases_lt i l.steps);
      next = subst (λ u. R (run m.took s []) u) (sym (run_on l.steps m.steps t cs)) m.next;
    }
      where
        later : (i : ℕ) → l.steps ≤ i → run i t cs ≡ run (i - l.steps) (run l.steps t cs) (after l.steps cs)
        later i b = let z : i ≡ l.steps + (i - l.steps) = omega arith in ap (λ i. run i t cs) z ∙ run_on l.steps (i - l.steps) t cs

    -- recovered code for steps that show nothing
    pub lead_only : (P : State → Type 0) (high left k : ℕ) (s t : State) (cs : List ℕ) → 0 < k → k ≤ 64 → k ≤ left → observed t ≡ observed s → (l : Leads P high t cs) → R (run k s []) (run l.steps t cs) → Moved R W high left s t cs
    lead_only P high left k s t cs a b c e l r = record {
      took = k;
      steps = l.steps;
      some = a;
      few = b;
      in_time = c;
      going = l.going;
      bound = l.bound;
      shows = λ i h. (0, omega arith, l.shows i h ∙ e);
      quiet = λ i h. low _ (l.inside i h);
      next = r;
    }

-- within more steps
abbrev lead_more : (P : State → Type 0) (h k : ℕ) (t : State) (cs : List ℕ) → Leads P h t cs → Leads P (h + k) t cs
lead_more P h k t cs l = record { steps = l.steps; going = l.going; bound = omega (arith, l.bound); shows = l.shows; inside = l.inside; there = l.there }

-- recovered code, and then more of it
lead_on : (P Q : State → Type 0) (h k : ℕ) (t : State) (cs : List ℕ) → (l : Leads P h t cs) → Gets Q 0 k (run l.steps t cs) (after l.steps cs) → Leads Q (h + k) t cs
lead_on P Q h k t cs l g = record {
  steps = l.steps + g.steps;
  going = omega (arith, l.going);
  bound = omega (arith, l.bound, g.bound);
  shows = λ i b. ⊎_elim
      (λ (c : i < l.steps). l.shows i (omega arith))
      (λ (c : l.steps ≤ i). ap observed (later i c) ∙ g.shows (i - l.steps) (omega arith) ∙ l.shows l.steps (omega arith))
      (cases_lt i l.steps);
  inside = λ i b. ⊎_elim
      (λ (c : i < l.steps). l.inside i c)
      (λ (c : l.steps ≤ i). let q = g.inside (i - l.steps) (omega arith) in let e : (run i t cs).eip ≡ (run (i - l.steps) (run l.steps t cs) (after l.steps cs)).eip = ap (λ (u : State). u.eip) (later i c) in omega (arith, q, e))
      (cases_lt i l.steps);
  there = subst Q (sym (run_on l.steps g.steps t cs)) g.there;
}
  where
    later : (i : ℕ) → l.steps ≤ i → run i t cs ≡ run (i - l.steps) (run l.steps t cs) (after l.steps cs)
    later i b = let z : i ≡ l.steps + (i - l.steps) = omega arith in ap (λ i. run i t cs) z ∙ run_on l.steps (i - l.steps) t cs

same_or_not : (a b : ℕ) → (a ≡ b) ⊎ (a ≡ b → ⊥)
same_or_not a b = ⊎_elim
    (λ (l : a < b). inr (λ e. omega (arith, l, e)))
    (λ (l : b ≤ a). ⊎_elim (λ (m : b < a). inr (λ e. omega (arith, m, e))) (λ (m : a ≤ b). inl (omega (arith, l, m))) (cases_lt b a))
    (cases_lt a b)

number_small : (f : Flag) → number f < 14
number_small CF = omega arith
number_small PF = omega arith
number_small ZF = omega arith
number_small SF = omega arith
number_small OF = omega arith

-- a state that has been captured is related
pub captured_block : (plan : Plan) (Static : State → Type 0) (y : ℕ) (s t u : State) (own : List ℕ) (fl mk : Flags) (at : ℕ) → plan.is_start y ≡ true → Static s → s.stop ≡ Running → s.eip ≡ y → t ≡ placed (extra_of plan own) fl mk at s → Agree s.cpu.marks fl s.cpu.flags → Captured plan y s.regions t u → AtBlock plan Static y s u
captured_block plan Static y s t u own fl mk at start static goes eip same agree c = record {
  start = start;
  eip = eip;
  goes = goes;
  static = static;
  cells = c.cells;
  sees = c.sees;
  there = c.there;
  outer = c.outer_is;
  homes = record {
    regs = λ r l on. c.regs r l ∙ ap (λ (u : State). get_or u.cpu.regs r 0) same;
    flags = λ f on m. c.flags f ∙ ap (λ (u : State). bit (flag_of f u.cpu.flags)) same ∙ ap bit (agree_at s.cpu.marks fl s.cpu.flags agree f m);
    df = λ on. c.df ∙ ap (λ (u : State). bit u.cpu.df) same;
  };
  bits = record { flags = λ f. rw (c.flags f) (bit_small (flag_of f t.cpu.flags)); df = rw (c.df) (bit_small t.cpu.df) };
  shows = c.shows ∙ ap observed same;
  brk_start = c.brk_start ∙ ap (λ (u : State). u.brk_start) same;
  brk = c.brk ∙ ap (λ (u : State). u.brk) same;
}

module _ (plan : Plan) (Static good W : State → Type 0) (may : Type 0) where
  abbrev R : State → State → Type 0
  R s t = Related plan Static W may s t

  pub alike : (s t : State) → R s t → observed t ≡ observed s
  alike s t (at_block x h) = h.sees.seen ∙ h.shows
  alike s t (at_native x h) = ap observed h.wider.same
  alike s t (at_copy x k h) = ap observed h.stands.wider.same
  alike s t (gone m own e h w) = ap observed w.same
  alike s t (over h) = h.same
  alike s t (doomed h) = h.same

  -- the moves that need nothing of the fragments
  module _ (claim : Claim plan Static good W may) (code_low : plan.code.start + length plan.code.bytes ≤ 0x07000000) (high : ℕ) (some : 0 < high) where
    pub over_move : (s t : State) (cs : List ℕ) (left : ℕ) → 0 < left → Over W s t → Moved R W high left s t cs
    over_move s t cs left l h =
        let e = stays s 0 h.over in
        let stop : t.stop ≡ s.stop = ap (λ (z : Observation). z.stop) h.same in
        let f = stays t (first_choice cs) (subst IsOver (sym stop) h.over) in
        one_step R W alike high left s t cs l some h.same h.quiet (subst (λ u. R u (step t (first_choice cs))) (sym e) (subst (λ u. R s u) (sym f) (over h)))

    pub gone_move : (m : may) (s t : State) (cs : List ℕ) (left : ℕ) (own : List ℕ) → 0 < left → length own ≡ 65536 → IsHigh 0x08000000 s → IsWellDefined s → IsBeside plan own s.eip s t → Moved R W high left s t cs
    gone_move m s t cs left own l e h f w =
        one_step R W alike high left s t cs l some (ap observed w.same) (claim.gone m t) (⊎_elim going over_then (is_over s))
      where
        over_then : IsOver s.stop → R (step s 0) (step t (first_choice cs))
        over_then o =
            let stop : t.stop ≡ s.stop = ap (λ (z : State). z.stop) w.same in
            let a = stays s 0 o in
            let b = stays t (first_choice cs) (subst IsOver (sym stop) o) in
            subst (λ u. R u (step t (first_choice cs))) (sym a) (subst (λ u. R s u) (sym b) (gone m own e h w))

        going : s.stop ≡ Running → R (step s 0) (step t (first_choice cs))
        going g =
            let x = extra_low plan own code_low e in
            let i = fine_found (extra_of plan own) s x h.regions g f in
            let act : meaning i.inst i.len s.cpu.regs s.eip s.cpu.df ≡ meaning i.inst i.len s.cpu.regs s.eip s.cpu.df = refl in
            let ends : AllEnds (λ to. next_eip to s.eip ≡ next_eip to s.eip) (act_of i.inst i.len s) = all_ends (λ to. next_eip to s.eip ≡ next_eip to s.eip) (λ to. refl) (act_of i.inst i.len s) in
            let z = step_beside 0x08000000 (extra_of plan own) x (λ a b. b ≡ a) s w.flags w.marks s.eip (first_choice cs) i.inst i.len g f h w.agree i.here i.there act ends in
            let same : step t (first_choice cs) ≡ placed (extra_of plan own) z.flags z.marks (step s 0).eip (step s 0) = ap (λ u. step u (first_choice cs)) w.same ∙ z.same ∙ ap (λ a. placed (extra_of plan own) z.flags z.marks a (step s 0)) z.eips in
            gone m own e z.high (record { flags = z.flags; marks = z.marks; agree = z.agree; same = same })

  -- the moves of an island
  module _ (claim : Claim plan Static good W may) (orig : Original Static) (laid : Laid plan) (opening closing : ℕ) (laws : IslandLaws plan Static opening closing) where
    -- where both may stand after one step of an island's instruction
    abbrev Eips : ℕ → ℕ → ℕ → Type 0
    Eips x a b = ((a ≡ x) × (b ≡ plan.native x)) ⊎ ((a ≡ past plan x) × (b ≡ wrap (plan.native x + plan.len x)))

    low_after : (x b : ℕ) → plan.is_island x ≡ true → (a : ℕ) → Eips x a b → b < 0x07000000
    low_after x b i a (inl h) = let q = laws.inside x i in omega (arith, h.1)
    low_after x b i a (inr h) = let q = laws.inside x i in let m : wrap (plan.native x + plan.len x) ≡ plan.native x + plan.len x = omega arith in omega (arith, h.1)

    native_step : (x : ℕ) (s t : State) (c : ℕ) → IsWellDefined s → (h : AtNative plan Static x s t) → Beside 0x08000000 (extra_of plan h.own) (extra_low plan h.own laid.low h.ready.size) (Eips x) (step s 0) (step t c)
    native_step x s t c f h =
        let l = extra_low plan h.own laid.low h.ready.size in
        let here = laws.here x s h.island h.static h.eip in
        let there = laws.copied x h.own s.regions h.island in
        let act = laws.placeless x s.cpu.regs (plan.native x) s.eip s.cpu.df h.island in
        let ends : AllEnds (λ to. Eips x (next_eip to s.eip) (next_eip to (plan.native x))) (act_of (plan.inst x) (plan.len x) s) = ends_map _ _ (λ to. each to) (act_of (plan.inst x) (plan.len x) s) (laws.ends x s.cpu.regs s.eip s.cpu.df h.island) in
        let z = step_beside 0x08000000 (extra_of plan h.own) l (Eips x) s h.wider.flags h.wider.marks (plan.native x) c (plan.inst x) (plan.len x) h.goes f (orig.high s h.static) h.wider.agree here there act ends in
        subst (λ u. Beside 0x08000000 (extra_of plan h.own) l (Eips x) (step s 0) (step u c)) (sym h.wider.same) z
      where
        each : (to : NextEip) → (to ≡ Past (plan.len x)) ⊎ (to ≡ Again) → Eips x (next_eip to s.eip) (next_eip to (plan.native x))
        each to (inl e) = inr (ap (λ to. next_eip to s.eip) e ∙ ap (λ a. wrap (a + plan.len x)) h.eip, ap (λ to. next_eip to (plan.native x)) e)
        each to (inr e) = inl (ap (λ to. next_eip to s.eip) e ∙ h.eip, ap (λ to. next_eip to (plan.native x)) e)

    -- the instruction is over, and the state is captured
    closed : (x : ℕ) (s t : State) (cs : List ℕ) (left : ℕ) → 0 < left → good s → (h : AtNative plan Static x s t) → (z : Beside 0x08000000 (extra_of plan h.own) (extra_low plan h.own laid.low h.ready.size) (Eips x) (step s 0) (step t (first_choice cs))) → (step s 0).stop ≡ Running → (step s 0).eip ≡ past plan x → z.at ≡ wrap (plan.native x + plan.len x) → Moved R W (1 + closing) left s t cs
    closed x s t cs left lt g h z goes at there = ⊎_elim captured (λ (u : plan.knows x (past plan x) ≡ false). one_step R W alike (1 + closing) left s t cs lt (omega arith) (ap observed h.wider.same) (claim.low t (ap_low h)) (doomed (record { same = ap observed z.same; doomed = laws.no_code x s h.island u h.static h.goes h.eip (claim.fine s g) goes at }))) (cases_Bool (plan.knows x (past plan x)))
      where
        ap_low : (h : AtNative plan Static x s t) → t.eip < 0x07000000
        ap_low h = let q = laws.inside x h.island in let e : t.eip ≡ plan.native x = ap (λ (u : State). u.eip) h.wider.same in omega (arith, e)

        known : (u : State) → Static (step s 0) → plan.knows x (past plan x) ≡ true → Captured plan (past plan x) (step s 0).regions (step t (first_choice cs)) u → R (step s 0) u
        known u static n k = at_block (past plan x) (captured_block plan Static (past plan x) (step s 0) (step t (first_choice cs)) u h.own z.flags z.marks z.at (laid.known_start x (past plan x) h.start n) static goes at z.same z.agree k)

        captured : plan.knows x (past plan x) ≡ true → Moved R W (1 + closing) left s t cs
        captured k =
            let s1 : State = step s 0 in
            let t1 : State = step t (first_choice cs) in
            let f = claim.fine s g in
            let static = orig.on s h.static f in
            let e1 : observed t1 ≡ observed s1 = ap observed z.same in
            let df : s.cpu.df ≡ t1.cpu.df = sym (laws.keeps_df x s h.island h.static h.eip f) ∙ sym (ap (λ (u : State). u.cpu.df) z.same) in
            let regs : t1.cpu.regs ≡ s1.cpu.regs = ap (λ (u : State). u.cpu.regs) z.same in
            let l = laws.closes x t1 h.own s1.regions (drop 1 cs) h.island k (ap (λ (u : State). u.regions) z.same) (subst (Ready h.own) df h.ready) (ap length regs ∙ orig.eight s1 static) (λ r k. rw regs (orig.small s1 static r k)) (ap (λ (u : State). u.stop) z.same ∙ goes) (ap (λ (u : State). u.eip) z.same ∙ there) in
            step_then R W alike claim.low _ closing left s t cs lt (ap observed h.wider.same) (claim.low t (ap_low h)) e1 l
            (known (run l.steps t1 (drop 1 cs)) static k l.there)

    pub native_move : (x : ℕ) (s t : State) (cs : List ℕ) (left : ℕ) → 0 < left → good s → AtNative plan Static x s t → Moved R W (1 + closing) left s t cs
    native_move x s t cs left lt g h =
        let f = claim.fine s g in
        let z = native_step x s t (first_choice cs) f h in
        let e1 : observed (step t (first_choice cs)) ≡ observed (step s 0) = ap observed z.same in
        let eip : (step t (first_choice cs)).eip ≡ z.at = ap (λ (u : State). u.eip) z.same in
        let low1 : (step t (first_choice cs)).eip < 0x07000000 = let q = low_after x z.at h.island (step s 0).eip z.eips in omega (arith, eip) in
        let low0 : t.eip < 0x07000000 = let q = laws.inside x h.island in let e : t.eip ≡ plan.native x = ap (λ (u : State). u.eip) h.wider.same in omega (arith, e) in
        let stay = λ (r : R (step s 0) (step t (first_choice cs))). one_step R W alike (1 + closing) left s t cs lt (omega arith) (ap observed h.wider.same) (claim.low t low0) r in
        ⊎_elim
        (λ (goes : (step s 0).stop ≡ Running). ⊎_elim
        (λ (b : ((step s 0).eip ≡ x) × (z.at ≡ plan.native x)). stay (at_native x (record {
          start = h.start;
          island = h.island;
          eip = b.0;
          goes = goes;
          static = orig.on s h.static f;
          own = h.own;
          ready = subst (Ready h.own) (sym (laws.keeps_df x s h.island h.static h.eip f)) h.ready;
          wider = record { flags = z.flags; marks = z.marks; agree = z.agree; same = z.same ∙ ap (λ a. placed (extra_of plan h.own) z.flags z.marks a (step s 0)) b.1 };
        })))
        (λ (b : ((step s 0).eip ≡ past plan x) × (z.at ≡ wrap (plan.native x + plan.len x))). closed x s t cs left lt g h z goes b.0 b.1)
        z.eips)
        (λ (o : IsOver (step s 0).stop). stay (over (record { same = e1; over = o; quiet = claim.low _ low1 })))
        (is_over (step s 0))

    -- an iteration of a repeated instruction is one step of both
    again : (x : ℕ) (s t : State) (c : ℕ) → IsWellDefined s → (past plan x ≡ x → ⊥) → (step s 0).stop ≡ Running → (step s 0).eip ≡ x → AtNative plan Static x s t → AtNative plan Static x (step s 0) (step t c)
    again x s t c f apart goes e h =
        let z = native_step x s t c f h in
        let at : z.at ≡ plan.native x = ⊎_elim (λ (b : ((step s 0).eip ≡ x) × (z.at ≡ plan.native x)). b.1) (λ (b : ((step s 0).eip ≡ past plan x) × (z.at ≡ wrap (plan.native x + plan.len x))). absurd (apart (sym b.0 ∙ e))) z.eips in
        record {
          start = h.start;
          island = h.island;
          eip = e;
          goes = goes;
          static = orig.on s h.static f;
          own = h.own;
          ready = subst (Ready h.own) (sym (laws.keeps_df x s h.island h.static h.eip f)) h.ready;
          wider = record { flags = z.flags; marks = z.marks; agree = z.agree; same = z.same ∙ ap (λ a. placed (extra_of plan h.own) z.flags z.marks a (step s 0)) at };
        }

    -- so are any number of them
    pub native_turns : (x k : ℕ) (s t : State) (cs : List ℕ) → (past plan x ≡ x → ⊥) → AllGood IsWellDefined k s → ((j : ℕ) → j < k → ((run (suc j) s []).stop ≡ Running) × ((run (suc j) s []).eip ≡ x)) → AtNative plan Static x s t → AtNative plan Static x (run k s []) (run k t cs)
    native_turns x zero s t cs apart g stay h = h
    native_turns x (suc k) s t cs apart g stay h =
        let one = stay 0 (omega arith) in
        native_turns x k (step s 0) (step t (first_choice cs)) (drop 1 cs) apart g.1 (λ j l. stay (suc j) (omega arith)) (again x s t (first_choice cs) g.0 apart one.0 one.1 h)

    -- the fragment of an island up to its instruction
    opened : (x : ℕ) (s t u : State) → plan.is_island x ≡ true → (h : AtBlock plan Static x s t) → Opens plan x h.cells u → AtNative plan Static x s u
    opened x s t u i h o =
        let all : AgreesOn every s.cpu (at_home plan h.cells) = record {
          regs = λ r l e. h.homes.regs r l (laid.island_live x r (omega arith) i);
          flags = λ f e m. h.homes.flags f (laid.island_live x (number f) (number_small f) i) m;
          df = λ e. h.homes.df (laid.island_live x 13 (omega arith) i);
        } in
        let w = restored_wider plan (plan.native x) (at_home plan h.cells) h.cells.outer h.cells s u o.restored all h.outer h.shows h.brk_start h.brk (orig.eight s h.static) in
        record {
          start = h.start;
          island = i;
          eip = h.eip;
          goes = h.goes;
          static = h.static;
          own = o.restored.own;
          ready = subst (Ready o.restored.own) (ap (λ (u : State). u.cpu.df) w.same) o.ready;
          wider = w;
        }

    pub island_move : (x : ℕ) (s t : State) (cs : List ℕ) (left : ℕ) → 0 < left → good s → plan.is_island x ≡ true → AtBlock plan Static x s t → Moved R W (opening + (1 + closing)) left s t cs
    island_move x s t cs left lt g i h =
        let l = laws.opens x t h.cells cs i h.sees h.there h.bits in
        lead_first R W alike claim.low (Opens plan x h.cells) opening (1 + closing) left s t cs (alike s t (at_block x h)) l
        (native_move x s (run l.steps t cs) (after l.steps cs) left lt g (opened x s t _ i h l.there))

  -- the move of a copied instruction
  module _ (claim : Claim plan Static good W may) (orig : Original Static) (turn : ℕ) (copies : CopyLaws plan Static turn) where
    -- to where the file landed
    pub landed : (s u : State) → Static s → s.stop ≡ Running → Landed plan Static s u → R s u
    landed s u static goes (in_block y h) = at_block y h
    landed s u static goes (in_copy c p) = ⊎_elim
        (λ (l : plan.copied s.eip < 1). doomed (record { same = ap observed p.wider.same; doomed = copies.empty s.eip s c (omega (arith, l)) static goes refl }))
        (λ (l : 1 ≤ plan.copied s.eip). let some : 0 < plan.copied s.eip = omega (arith, l) in at_copy s.eip 0 (record {
          cold = c;
          within = some;
          eip = sym (copies.first s.eip c some);
          goes = goes;
          static = static;
          stands = p;
        }))
        (cases_lt (plan.copied s.eip) 1)
    landed s u static goes (nowhere d e) = doomed (record { same = e; doomed = d })

    behind : (x k : ℕ) (s t u : State) → good s → InCopy plan Static x k s t → Static (step s 0) → After plan Static s (step s 0) u → R (step s 0) u
    behind x k s t u g h static (in_place y j c) = at_copy y j c
    behind x k s t u g h static (lands goes l) = landed (step s 0) u static goes l
    behind x k s t u g h static (leaves i goes start cold own size w) = ⊎_elim
        (λ (m : may). gone m own size (orig.high (step s 0) static) w)
        (λ (d : IsWellDefined (step s 0) → ⊥). doomed (record { same = ap observed w.same; doomed = d }))
        (claim.lost x k s t h g i goes start cold)
    behind x k s t u g h static (stops o e l) = over (record { same = e; over = o; quiet = claim.low u l })

    pub copy_move : (x k : ℕ) (s t : State) (cs : List ℕ) (left : ℕ) → 0 < left → good s → InCopy plan Static x k s t → Moved R W turn left s t cs
    copy_move x k s t cs left lt g h =
        let f = claim.fine s g in
        let static = orig.on s h.static f in
        let z = copies.turns x k s t cs h f static in
        record {
          took = 1;
          steps = z.steps;
          some = omega arith;
          few = omega arith;
          in_time = omega (arith, lt);
          going = z.going;
          bound = z.bound;
          shows = z.shows;
          quiet = λ i l. claim.low _ (z.inside i l);
          next = behind x k s t (run z.steps t cs) g h static z.next;
        }

  -- the move of a block that is no island
  module _ (claim : Claim plan Static good W may) (orig : Original Static) (laid : Laid plan) (high : ℕ) (laws : PlainLaws plan Static high) (turn : ℕ) (copies : CopyLaws plan Static turn) where
    static_on : (n : ℕ) (s : State) → Static s → AllGood IsWellDefined n s → Static (run n s [])
    static_on zero s h g = h
    static_on (suc n) s h g = static_on n (step s 0) (orig.on s h g.0) g.1

    starts : (x : ℕ) (s t : State) → plan.is_island x ≡ false → AtBlock plan Static x s t → Starts plan Static x s
    starts x s t i h = record { start = h.start; plain = i; static = h.static; goes = h.goes; eip = h.eip }

    arrived : (x : ℕ) (p : ℕ → ℕ) (s t s1 u : State) (h : AtBlock plan Static x s t) → s1 ≡ run (plan.count x) s [] → Static s1 → observed s1 ≡ observed s → Lifted plan x p s → Arrives plan x p h.cells u → R s1 u
    arrived x p s t s1 u h e static w l a = at_block (plan.exit x p h.cells.outer) (record {
      start = laid.known_start x _ h.start a.known;
      eip = ap (λ (u : State). u.eip) e ∙ l.eip ∙ ap (plan.exit x p) (sym h.outer);
      goes = ap (λ (z : Observation). z.stop) w ∙ h.goes;
      static = static;
      cells = a.cells;
      sees = a.sees;
      there = a.there;
      outer = a.outer ∙ ap (plan.memory x p) h.outer ∙ sym l.memory ∙ sym (ap (λ (u : State). u.regions) e);
      homes = record {
        regs = λ r k on. let b : r < 14 = omega arith in a.homes r b on ∙ ap (λ o. plan.outs x p o r) h.outer ∙ subst (λ (s1 : State). plan.outs x p s.regions r ≡ get_or s1.cpu.regs r 0) (sym e) (l.agrees.regs r k refl);
        flags = λ f on m. a.homes (number f) (number_small f) on ∙ ap (λ o. plan.outs x p o (number f)) h.outer ∙ subst (λ (s1 : State). flag_of f s1.cpu.marks ≡ true → plan.outs x p s.regions (number f) ≡ bit (flag_of f s1.cpu.flags)) (sym e) (l.agrees.flags f refl) m;
        df = λ on. a.homes 13 (omega arith) on ∙ ap (λ o. plan.outs x p o 13) h.outer ∙ subst (λ (s1 : State). plan.outs x p s.regions 13 ≡ bit s1.cpu.df) (sym e) (l.agrees.df refl);
      };
      bits = a.bits;
      shows = a.stays.shows ∙ h.shows ∙ sym w;
      brk_start = a.stays.brk_start ∙ h.brk_start ∙ sym l.brk_start ∙ sym (ap (λ (u : State). u.brk_start) e);
      brk = a.stays.brk ∙ h.brk ∙ sym l.brk ∙ sym (ap (λ (u : State). u.brk) e);
    })

    -- from a block by an exit that is not known: the file's guest is the original's, at the place of that exit
    record Left (x : ℕ) (s1 u : State) : Type 0 where
      own : List ℕ
      size : length own ≡ 65536
      ready : (plan.beyond x s1.eip ≡ s1.eip → ⊥) → Ready own s1.cpu.df
      wider : IsBeside plan own (plan.beyond x s1.eip) s1 u
      unknown : plan.knows x s1.eip ≡ false

    left_by : (x : ℕ) (p : ℕ → ℕ) (s t s1 u : State) (h : AtBlock plan Static x s t) → s1 ≡ run (plan.count x) s [] → Static s1 → observed s1 ≡ observed s → Lifted plan x p s → Leaves plan x p h.cells u → Left x s1 u
    left_by x p s t s1 u h e static w l a =
        let eip : s1.eip ≡ plan.exit x p h.cells.outer = ap (λ (u : State). u.eip) e ∙ l.eip ∙ ap (plan.exit x p) (sym h.outer) in
        let agrees : AgreesOn every s1.cpu (plan.outs x p h.cells.outer) = subst (λ s1. AgreesOn every s1.cpu (plan.outs x p h.cells.outer)) (sym e) (subst (λ o. AgreesOn every (run (plan.count x) s []).cpu (plan.outs x p o)) (sym h.outer) l.agrees) in
        let memory : plan.memory x p h.cells.outer ≡ s1.regions = ap (plan.memory x p) h.outer ∙ sym l.memory ∙ sym (ap (λ (u : State). u.regions) e) in
        let v = restored_wider plan (plan.beyond x (plan.exit x p h.cells.outer)) (plan.outs x p h.cells.outer) (plan.memory x p h.cells.outer) h.cells s1 u a.restored agrees memory (h.shows ∙ sym w) (h.brk_start ∙ sym l.brk_start ∙ sym (ap (λ (u : State). u.brk_start) e)) (h.brk ∙ sym l.brk ∙ sym (ap (λ (u : State). u.brk) e)) (orig.eight s1 static) in
        let df : u.cpu.df ≡ s1.cpu.df = ap (λ (u : State). u.cpu.df) v.same in
        record {
          own = a.restored.own;
          size = a.restored.size;
          ready = λ far. subst (Ready a.restored.own) df (a.ready (λ q. far (ap (plan.beyond x) eip ∙ q ∙ sym eip)));
          wider = subst (λ at. IsBeside plan a.restored.own (plan.beyond x at) s1 u) (sym eip) v;
          unknown = ap (plan.knows x) eip ∙ a.unknown;
        }

    -- that place is the exit itself
    left_to : (x : ℕ) (s t u : State) → Starts plan Static x s → AllGood good (plan.count x) s → Static (run (plan.count x) s []) → Left x (run (plan.count x) s []) u → plan.beyond x (run (plan.count x) s []).eip ≡ (run (plan.count x) s []).eip → R (run (plan.count x) s []) u
    left_to x s t u start g static v near = ⊎_elim
        (λ (m : may). gone m v.own v.size (orig.high (run (plan.count x) s []) static) (subst (λ at. IsBeside plan v.own at (run (plan.count x) s []) u) near v.wider))
        (λ (d : IsWellDefined (run (plan.count x) s []) → ⊥). doomed (record { same = ap observed v.wider.same; doomed = d }))
        (claim.leaves x s start g v.unknown near)

    -- or another, from which recovered code leads on
    left_for : (x : ℕ) (s1 u : State) (cs : List ℕ) → plan.is_start x ≡ true → plan.is_island x ≡ false → Static s1 → s1.stop ≡ Running → Left x s1 u → (plan.beyond x s1.eip ≡ s1.eip → ⊥) → Gets (Landed plan Static s1) 0 turn u cs
    left_for x s1 u cs start i static goes v far = copies.beyond x s1 u cs start i v.unknown far static goes (record { own = v.own; ready = v.ready far; wider = v.wider })

    pub plain_move : (x : ℕ) (s t : State) (cs : List ℕ) (left : ℕ) → 0 < left → AllGood good left s → plan.is_island x ≡ false → AtBlock plan Static x s t → Moved R W (high + turn) left s t cs ⊎ Short left s
    plain_move x s t cs left lt g i h = ⊎_elim
        (λ (b : left < plan.count x). inr (record { few = let q = laws.few x in omega arith; same = laws.steady x left s (starts x s t i h) (omega arith) fine }))
        (λ (b : plan.count x ≤ left). inl (whole b (good_less good left (plan.count x) s b g)))
        (cases_lt left (plan.count x))
      where
        fine : AllGood IsWellDefined left s
        fine = all_map good IsWellDefined claim.fine left s g

        first : (n : ℕ) → 0 < n → AllGood good n s → good s
        first zero l g = absurd (omega arith)
        first (suc n) l g = g.0

        whole : plan.count x ≤ left → AllGood good (plan.count x) s → Moved R W (high + turn) left s t cs
        whole b gk =
            let p = overlay (plan.live x) (at_home plan h.cells) s in
            let fk = all_map good IsWellDefined claim.fine (plan.count x) s gk in
            let agrees = overlay_agrees (plan.live x) (at_home plan h.cells) s h.homes in
            let bits = overlay_bits (plan.live x) (at_home plan h.cells) s h.bits in
            let l = laws.lift x p s (starts x s t i h) agrees bits fk in
            let f = laws.fragment x p s t h.cells cs (starts x s t i h) agrees fk h.outer h.sees h.there (λ v on. overlay_on (plan.live x) (at_home plan h.cells) s v on) h.bits bits in
            let w = laws.steady x (plan.count x) s (starts x s t i h) (omega arith) fk in
            let static = static_on (plan.count x) s h.static fk in
            let some : 0 < plan.count x = ⊎_elim (λ (q : plan.count x < 1). absurd (laws.empty x s (starts x s t i h) (omega arith) (claim.fine s (first left lt g)))) (λ (q : 1 ≤ plan.count x). omega arith) (cases_lt (plan.count x) 1) in
            let s1 : State = run (plan.count x) s [] in
            let u : State = run f.steps t cs in
            let goes : s1.stop ≡ Running = ap (λ (z : Observation). z.stop) w ∙ h.goes in
            let at_once : R s1 u → Moved R W (high + turn) left s t cs = λ r. lead_only R W alike claim.low _ (high + turn) left (plan.count x) s t cs some (laws.few x) b (alike s t (at_block x h)) (lead_more _ high turn t cs f) r in
            ⊎_elim
            (λ (a : Arrives plan x p h.cells u). at_once (arrived x p s t s1 u h refl static w l a))
            (λ (a : Leaves plan x p h.cells u).
            let v = left_by x p s t s1 u h refl static w l a in
            ⊎_elim
            (λ (near : plan.beyond x s1.eip ≡ s1.eip). at_once (left_to x s t u (starts x s t i h) gk static v near))
            (λ (far : plan.beyond x s1.eip ≡ s1.eip → ⊥).
            let g = left_for x s1 u (after f.steps cs) h.start i static goes v far in
            let more = lead_on _ (Landed plan Static s1) high turn t cs f g in
            lead_only R W alike claim.low (Landed plan Static s1) (high + turn) left (plan.count x) s t cs some (laws.few x) b (alike s t (at_block x h)) more (landed claim orig turn copies s1 (run more.steps t cs) static goes more.there))
            (same_or_not (plan.beyond x s1.eip) s1.eip))
            f.there
