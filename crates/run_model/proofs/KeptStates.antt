-- A step from a sound state leads to a sound one with the same code.
use Rattle.std.proofs.Common.{◌≡◌, ℕ, zero, suc, ◌+◌, ◌-◌, ◌%◌, ◌^◌, ◌<◌, Bool, true, false, ◌&&◌, List, ◌++◌, length, take, drop, map, get_or, set, All, Option, Some, None, refl, sym, ap, ◌∙◌, subst, arith}
use Rattle.std.specs.Prelude.{nat_eq, nat_lt, nat_le, if◌then◌else◌, IsTrue}
use Rattle.std.proofs.lemmas.Bool.Decides.{nat_tests}
use Rattle.std.proofs.lemmas.Nat.{mod_below}
use Rattle.std.proofs.lemmas.List.{length-take}
use Rattle.br_word.specs.Memory.{Region, Runs, bytes_at, written, bytes_of, load, store, resized, AreBytes, HoldBytes}
use Rattle.br_word.specs.State.{Processor, State, RunState, Running, Exited, Faulted, flag_of, AreRegs}
use Rattle.br_word.specs.declared.types.Width.TheVariants.{B32}
use Rattle.ia_inst.specs.declared.inst.Inst.{Inst}
use Rattle.ia_inst.specs.declared.inst.Inst.TheVariants.{Mov}
use Rattle.ia_inst.specs.declared.inst.Rm.TheVariants.{Reg}
use Rattle.ia_inst.specs.declared.inst.Src.TheVariants.{Imm}
use Rattle.ia_inst.specs.Meaning.{wrap, meaning}
use Rattle.ia_inst.specs.Act.{NextEip, Past, Again, To, Act, Load, Store, Ask, Divides, Calls, Ends, Completion, Next, Denied, Divided, Called, or_denied, perform}
use Rattle.ia_inst.specs.Canonical.{valid_of}
use Rattle.ia_inst.specs.Instructions.{decode_of}
use Rattle.ia_inst.specs.System.{answers, buffer, filled, system, StepResult, On, Bad, or_bad}
use Rattle.ia_inst.specs.Step.{Found, NoCode, NoInst, There, found_from, found_in, found, next_eip, act_of, result_of, result_at, step_result, settled, unless_stopped, step}
use Rattle.run_model.specs.Run.{first_choice, run}
use Rattle.ia_inst.specs.Fits.{IsAddress, Fits, EachFits}
use Rattle.run_model.specs.Sound.{IsApart, IsSound, StaysSound, ActsKeep}
use Rattle.run_model.proofs.KeptRegions.{IsRegion, together, their_bytes, their_code, word_bytes, first_bytes, last_bytes, Kept, kept_all, kept_on, bytes_read, load_small, written_bytes, written_kept, resized_kept}

-- ---- an act

module _ (b : ℕ) (first : List Region) where
  abbrev pub EndKept : Completion → Type 0
  EndKept (Next u rs to) = AreRegs u.regs × IsAddress to × Kept b first rs
  EndKept (Denied at) = Unit {0}
  EndKept Divided = Unit {0}
  EndKept (Called n) = Unit {0}

  after_load : (at n : ℕ) (rs : List Region) (o : Option ℕ) (go : ℕ → Completion) → HoldBytes rs → load at n rs ≡ o → ((v : ℕ) → v < 256 ^ n → EndKept (go v)) → EndKept (or_denied at o go)
  after_load at n rs None go h e k = tt
  after_load at n rs (Some v) go h e k = k v (load_small at n rs v h e)

  after_store : (at : ℕ) (new : List ℕ) (rs : List Region) (o : Option (List Region)) (go : List Region → Completion) → AreBytes new → Kept b first rs → written at new rs ≡ o → ((ss : List Region) → Kept b first ss → EndKept (go ss)) → EndKept (or_denied at o go)
  after_store at new rs None go l h e k = tt
  after_store at new rs (Some ss) go l h e k = k ss (kept_on b first rs ss h (written_kept b at new rs ss l h.regions e))

  pub perform_kept : (a : Act) (c : ℕ) (u : Processor) (rs : List Region) → Fits a → Kept b first rs → EndKept (perform a c u rs)
  perform_kept (Load at n k) c u rs f h = after_load at n rs (load at n rs) _ (their_bytes b rs h.regions) refl (λ v l. perform_kept (k v) c u rs (f v l) h)
  perform_kept (Store at n v a) c u rs f h = after_store at (bytes_of n v) rs (store at n v rs) _ (word_bytes n v) h refl (λ ss k. perform_kept a c u ss f k)
  perform_kept (Ask g k) c u rs f h = perform_kept (k (flag_of g u.flags)) c u rs (f (flag_of g u.flags)) h
  perform_kept Divides c u rs f h = tt
  perform_kept (Calls n) c u rs f h = tt
  perform_kept (Ends regs df ch to) c u rs f h = (f.0, f.1, h)

-- the same of registers and bytes alone
abbrev Holds : Completion → Type 0
Holds (Next u rs to) = AreRegs u.regs × HoldBytes rs × IsAddress to
Holds (Denied at) = Unit {0}
Holds Divided = Unit {0}
Holds (Called n) = Unit {0}

load_holds : (at n : ℕ) (rs : List Region) (o : Option ℕ) (go : ℕ → Completion) → HoldBytes rs → load at n rs ≡ o → ((v : ℕ) → v < 256 ^ n → Holds (go v)) → Holds (or_denied at o go)
load_holds at n rs None go h e k = tt
load_holds at n rs (Some v) go h e k = k v (load_small at n rs v h e)

store_holds : (at : ℕ) (new : List ℕ) (rs : List Region) (o : Option (List Region)) (go : List Region → Completion) → AreBytes new → HoldBytes rs → written at new rs ≡ o → ((ss : List Region) → HoldBytes ss → Holds (go ss)) → Holds (or_denied at o go)
store_holds at new rs None go l h e k = tt
store_holds at new rs (Some ss) go l h e k = k ss (written_bytes at new rs ss l h e)

perform_holds : (a : Act) (c : ℕ) (u : Processor) (rs : List Region) → Fits a → HoldBytes rs → Holds (perform a c u rs)
perform_holds (Load at n k) c u rs f h = load_holds at n rs (load at n rs) _ h refl (λ v l. perform_holds (k v) c u rs (f v l) h)
perform_holds (Store at n v a) c u rs f h = store_holds at (bytes_of n v) rs (store at n v rs) _ (word_bytes n v) h refl (λ ss k. perform_holds a c u ss f k)
perform_holds (Ask g k) c u rs f h = perform_holds (k (flag_of g u.flags)) c u rs (f (flag_of g u.flags)) h
perform_holds Divides c u rs f h = tt
perform_holds (Calls n) c u rs f h = tt
perform_holds (Ends regs df ch to) c u rs f h = (f.0, h, f.1)

pub act_keeps : ActsKeep
act_keeps a c u v rs ss to f h e = subst Holds e (perform_holds a c u rs f h)

-- ---- a state

wrapped : (x : ℕ) → wrap x < 2 ^ 32
wrapped x = mod_below x (2 ^ 32) (omega arith)

module _ (fits : EachFits) where
  -- a register that is written, as MOV writes it
  eax_set : (regs : List ℕ) (v : ℕ) → AreRegs regs → v < 2 ^ 32 → AreRegs (set regs 0 v)
  unfolding meaning
  eax_set regs v h l = (fits (Mov B32 (Reg 0) (Imm v)) 0 regs 0 false (le-true v l) h).0
    where
      le-true : (v : ℕ) → v < 2 ^ 32 → nat_lt v 4294967296 ≡ true
      le-true v l = grind (arith, nat_tests)

-- what is read of bytes is valid
abbrev pub ReadIsValid : Type 0
ReadIsValid = (bs : List ℕ) (i : Inst) (n : ℕ) → All (λ b. b < 256) bs → decode_of bs ≡ Some (i, n) → IsTrue (valid_of i)

module _ (fits : EachFits) (valid : ReadIsValid) (s : State) (h : IsSound s) where
  pub stays : (t : State) → AreRegs t.cpu.regs → t.eip < 2 ^ 32 → t.brk < 2 ^ 32 → AreBytes t.input → t.brk_start ≡ s.brk_start → Kept s.brk_start s.regions t.regions → StaysSound s t
  stays t regs eip brk input e k = record {
    sound = record { regs = regs; eip = eip; brk = brk; bytes = their_bytes s.brk_start t.regions k.regions; apart = subst (λ b. All (IsApart b) t.regions) (sym e) (their_code s.brk_start t.regions k.regions); input = input };
    code = λ a. ap found_in (k.code a);
  }

  regions : All (IsRegion s.brk_start) s.regions
  regions = together s.brk_start s.regions h.bytes h.apart

  same : Kept s.brk_start s.regions s.regions
  same = kept_all s.brk_start s.regions regions

  abbrev WayKept : StepResult → Type 0
  WayKept (On t) = StaysSound s t
  WayKept (Bad f) = Unit {0}

  -- ---- a system call

  either_way : (b : Bool) (d f : StepResult) → WayKept d → WayKept f → WayKept (if b then d else f)
  either_way true d f x y = x
  either_way false d f x y = y

  or_kept : {X : Type 0} (at : ℕ) (o : Option X) (go : X → StepResult) → ((v : X) → o ≡ Some v → WayKept (go v)) → WayKept (or_bad at o go)
  or_kept at None go k = tt
  or_kept at (Some v) go k = k v refl

  filled_kept : (at : ℕ) (new : List ℕ) (ss : List Region) → AreBytes new → filled at new s.regions ≡ Some ss → Kept s.brk_start s.regions ss
  filled_kept at new ss l e = go (nat_eq (length new) 0) e
    where
      go : (b : Bool) → (if b then Some s.regions else written at new s.regions) ≡ Some ss → Kept s.brk_start s.regions ss
      go true e = let is : s.regions ≡ ss = cc in subst (Kept s.brk_start s.regions) is same
      go false e = written_kept s.brk_start at new s.regions ss l regions e

  system_kept : (next : ℕ) → next < 2 ^ 32 → WayKept (system next s)
  unfolding system
  system_kept next l =
      let number = get_or s.cpu.regs 0 0 in
      let ecx = get_or s.cpu.regs 1 0 in
      let edx = get_or s.cpu.regs 2 0 in
      let ebx = get_or s.cpu.regs 3 0 in
      let new = take edx s.input in
      let eax = λ (v : ℕ) (p : v < 2 ^ 32). eax_set fits s.cpu.regs v h.regs p in
      let error = λ (v : ℕ) (p : v < 2 ^ 32). stays (answers v next s) (eax v p) l h.brk h.input refl same in
      either_way (nat_eq number 1) _ _ (stays (record s { eip = next; stop = Exited (ebx % 256) }) h.regs l h.brk h.input refl same)
      (either_way (nat_eq number 3) _ _
      (either_way (nat_eq ebx 0) _ _
      (or_kept ecx (filled ecx new s.regions) _ (λ ss e.
      stays (record (answers (length new) next s) { regions = ss; input = drop (length new) s.input }) (eax (length new) (few edx s.input (h.regs.small 2))) l h.brk (last_bytes (length new) s.input h.input) refl
      (filled_kept ecx new ss (first_bytes edx s.input h.input) e)))
      (error (2 ^ 32 - 9) (omega arith)))
      (either_way (nat_eq number 4) _ _
      (either_way (nat_eq ebx 1) _ _
      (or_kept ecx (buffer ecx edx s.regions) _ (λ bs e. stays (record (answers edx next s) { out = s.out ++ bs }) (eax edx (h.regs.small 2)) l h.brk h.input refl same))
      (either_way (nat_eq ebx 2) _ _
      (or_kept ecx (buffer ecx edx s.regions) _ (λ bs e. stays (record (answers edx next s) { err = s.err ++ bs }) (eax edx (h.regs.small 2)) l h.brk h.input refl same))
      (error (2 ^ 32 - 9) (omega arith))))
      (either_way (nat_eq number 45) _ _
      (either_way (nat_le s.brk_start ebx && nat_le ebx (s.brk_start + 67108864)) _ _
      (stays (record (answers ebx next s) { brk = ebx; regions = map (resized s.brk_start (ebx - s.brk_start)) s.regions }) (eax ebx (h.regs.small 3)) l (h.regs.small 3) h.input refl
      (resized_kept s.brk_start (ebx - s.brk_start) s.regions regions))
      (error s.brk h.brk))
      (error (2 ^ 32 - 38) (omega arith)))))
    where
      few : (n : ℕ) (xs : List ℕ) → n < 2 ^ 32 → length (take n xs) < 2 ^ 32
      few n xs l = let k = length-take n xs in omega (arith, k)

  -- ---- a step

  place_small : (to : NextEip) → IsAddress to → next_eip to s.eip < 2 ^ 32
  place_small (Past n) i = wrapped (s.eip + n)
  place_small Again i = h.eip
  place_small (To at) i = i

  way_kept : (e : Completion) → EndKept s.brk_start s.regions e → WayKept (result_of e s)
  way_kept (Next u rs to) k = stays (record s { eip = next_eip to s.eip; cpu = u; regions = rs }) k.0 (place_small to k.1) h.brk h.input refl k.2
  way_kept (Denied at) k = tt
  way_kept Divided k = tt
  way_kept (Called n) k = system_kept _ (wrapped (s.eip + n))

  -- what stands in bytes is valid
  pub valid_there : (a : ℕ) (i : Inst) (n : ℕ) → found a s.regions ≡ There i n → valid_of i ≡ true
  valid_there a i n e = by_bytes (bytes_at Runs a 1 s.regions) refl e
    where
      by_answer : (bs : List ℕ) (r : Option (Inst × ℕ)) → AreBytes bs → decode_of bs ≡ r → found_from r ≡ There i n → valid_of i ≡ true
      by_answer bs None l d e = cc
      by_answer bs (Some x) l d e = let is : x.0 ≡ i = cc in subst (λ i. valid_of i ≡ true) is (valid bs x.0 x.1 l d)

      by_bytes : (o : Option (List ℕ)) → bytes_at Runs a 1 s.regions ≡ o → found_in o ≡ There i n → valid_of i ≡ true
      by_bytes None f e = cc
      by_bytes (Some bs) f e = by_answer bs (decode_of bs) (bytes_read Runs a 1 s.regions bs h.bytes f) refl e

  way_at_kept : (f : Found) (c : ℕ) → found s.eip s.regions ≡ f → WayKept (result_at f s c)
  way_at_kept NoCode c e = tt
  way_at_kept NoInst c e = tt
  way_at_kept (There i n) c e =
      way_kept (perform (act_of i n s) c s.cpu s.regions)
      (perform_kept s.brk_start s.regions (act_of i n s) c s.cpu s.regions (fits i n s.cpu.regs s.eip s.cpu.df (valid_there s.eip i n e) h.regs) same)

  stays_settled : (w : StepResult) → WayKept w → StaysSound s (settled w s)
  stays_settled (On t) k = k
  stays_settled (Bad f) k = stays (record s { stop = Faulted f }) h.regs h.eip h.brk h.input refl same

  pub step_stays : (c : ℕ) → StaysSound s (step s c)
  unfolding step
  step_stays c = go s.stop
    where
      go : (stop : RunState) → StaysSound s (unless_stopped stop s (settled (step_result s c) s))
      go Running = stays_settled (step_result s c) (way_at_kept (found s.eip s.regions) c refl)
      go (Exited n) = stays s h.regs h.eip h.brk h.input refl same
      go (Faulted f) = stays s h.regs h.eip h.brk h.input refl same

-- a whole run
pub run_stays : EachFits → ReadIsValid → (n : ℕ) (s : State) (cs : List ℕ) → IsSound s → StaysSound s (run n s cs)
run_stays fits valid zero s cs h = record { sound = h; code = λ a. refl }
run_stays fits valid (suc n) s cs h =
    let k = step_stays fits valid s h (first_choice cs) in
    let l = run_stays fits valid n (step s (first_choice cs)) (drop 1 cs) k.sound in
    record { sound = l.sound; code = λ a. l.code a ∙ k.code a }
