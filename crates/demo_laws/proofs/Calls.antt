-- The steps of the demonstration: its calls, and its system calls.
use Rattle.std.proofs.Common.{◌≡◌, ℕ, zero, suc, ◌+◌, ◌-◌, ◌*◌, ◌%◌, ◌^◌, ◌<◌, ◌≤◌, Bool, true, false, List, [], ◌∷◌, ◌++◌, length, take, Some, refl, sym, ap, ◌∙◌, subst, arith, length-append, append-nil}
use Rattle.std.specs.Prelude.{if◌then◌else◌, option_map}
use Rattle.br_word.specs.declared.types.Flags.{Flags}
use Rattle.br_word.specs.declared.types.Width.TheVariants.{B32}
use Rattle.br_word.specs.Flags.{add_result}
use Rattle.br_word.specs.Words.{sign_bit}
use Rattle.br_word.specs.Memory.{bytes_of, zeros}
use Rattle.br_word.specs.State.{State, Running, Exited, SF, all_flags}
use Rattle.elf_read.specs.Regions.{stack_with}
use Rattle.elf_read.proofs.Numbers.{length_zeros}
use Rattle.elf_write.specs.File.{word}
use Rattle.ia_inst.specs.declared.inst.Inst.{Inst}
use Rattle.ia_inst.specs.declared.inst.Inst.TheVariants.{Alu, Mov, Not, Push, Jcc, Call, Ret, Int80}
use Rattle.ia_inst.specs.declared.inst.Rm.TheVariants.{Reg}
use Rattle.ia_inst.specs.declared.inst.Src.TheVariants.{Imm, Rm}
use Rattle.ia_inst.specs.Act.{NextEip, Past, To, Ends}
use Rattle.ia_inst.specs.Meaning.{meaning, wrap, no_changes, all_set}
use Rattle.ia_inst.specs.System.{On, or_bad, answers, system}
use Rattle.ia_inst.specs.Step.{There, found, next_eip, act_of}
use Rattle.block_cut.specs.Places.{found_at}
use Rattle.run_model.specs.Edges.{Edge, is_transfer, edge_by}
use Rattle.run_model.specs.Opening.{arguments, stack_top, opening}
use Rattle.run_model.specs.Run.{observed}
use Rattle.run_model.specs.Split.{RunsSplit, EdgesSplit, WellDefinedSplits}
use Rattle.elf_flat.specs.Flat.{flat_start, flat_entry}
use Rattle.demo_gen.specs.Demonstration.{demo_length}
use Rattle.demo_laws.proofs.Goes.{Goes, behind, one_step, by_end, by_store, by_load, by_ask}
use Rattle.demo_laws.proofs.Stack.{memory, IsStack, with_word, found_same, store_here, word_size, word_back, read_here, load_here}
use Rattle.demo_laws.specs.Accepted.{demo_of}
use Rattle.demo_laws.specs.Sites.{call_site, write_site, exit_site, function_site, number_added, HasDemoSites}
use Rattle.demo_laws.specs.Runs.{sum_of, or_inverted, eax_after, second_site, call_edges, edges_after, demo_observed}

-- a running state of the demonstration, with all flags defined
abbrev pub state : ℕ → ℕ → List ℕ → Flags → List ℕ → List ℕ → State
state count eip regs flags stack out = record {
  eip = eip;
  cpu = record { regs = regs; flags = flags; df = false; marks = all_flags true };
  regions = memory count stack;
  brk_start = (demo_of count).brk_start;
  brk = (demo_of count).brk_start;
  input = [];
  out = out;
  err = [];
  stop = Running;
}

-- eax, ecx, edx, ebx and esp
abbrev pub regs_of : ℕ → ℕ → ℕ → ℕ → ℕ → List ℕ
regs_of a c d b sp = a ∷ c ∷ d ∷ b ∷ sp ∷ 0 ∷ 0 ∷ 0 ∷ []

-- outside a call, and in one
abbrev pub outer : ℕ → List ℕ
outer a = regs_of a 0 0 0 0xBFFFFFE0

abbrev pub inner : ℕ → List ℕ
inner a = regs_of a 0 0 0 0xBFFFFFDC

opening_stack : List ℕ
opening_stack = stack_with (stack_top (arguments []))

top_size : length (stack_top (arguments [])) ≡ 32
unfolding bytes_of zeros
top_size = refl

opening_size : IsStack opening_stack
unfolding opening_stack stack_with
opening_size =
    let top = stack_top (arguments []) in
    let t = top_size in
    length-append (zeros (1048576 - length top)) top ∙ omega (arith, length_zeros (1048576 - length top))

opens : (count : ℕ) → opening (demo_of count) (arguments []) [] ≡ state count flat_entry (outer 0) (all_flags false) opening_stack []
unfolding opening_stack
opens count = refl

module _ (count : ℕ) (few : count ≤ 1000) (sites : HasDemoSites count) where
  -- in its code
  abbrev Within : ℕ → Type 0
  Within at = (flat_start ≤ at) × (at < flat_start + demo_length count)

  seen : (at n : ℕ) (i : Inst) (stack : List ℕ) → Within at → found_at (demo_of count) at ≡ There i n → found at (memory count stack) ≡ There i n
  seen at n i stack w f = found_same count at stack w.0 w.1 ∙ f

  plain : (at n next : ℕ) (i : Inst) (regs new : List ℕ) (flags : Flags) (stack out : List ℕ) → Within at → next ≡ at + n → next < 2 ^ 32 → found_at (demo_of count) at ≡ There i n → act_of i n (state count at regs flags stack out) ≡ Ends new false no_changes (Past n) → is_transfer i ≡ false → Goes 1 (state count at regs flags stack out) (state count next new flags stack out) []
  plain at n next i regs new flags stack out w e l f a k =
      let s = state count at regs flags stack out in
      let to : wrap (at + n) ≡ next = omega arith in
      let g = by_end s i n new no_changes (Past n) refl (seen at n i stack w f) a in
      let t = state count (wrap (at + n)) new flags stack out in
      let quiet : Goes 1 s t [] = subst (λ b. Goes 1 s t (edge_by b (On t) at)) k g in
      subst (λ next. Goes 1 s (state count next new flags stack out) []) to quiet

  -- ---- a call

  module _ (i : ℕ) (h : i < count) where
    enter : (eax : ℕ) (flags : Flags) (stack : List ℕ) → IsStack stack → Goes 1 (state count (call_site i) (outer eax) flags stack []) (state count (function_site count i) (inner eax) flags (with_word stack (call_site (suc i))) []) ((call_site i, function_site count i) ∷ [])
    unfolding meaning
    enter eax flags stack k =
        let s = state count (call_site i) (outer eax) flags stack [] in
        let d = 27 + 5 * count + 6 * i in
        let f = seen (call_site i) 5 (Call d) stack (omega (arith, h), omega (arith, h)) (sites.call i h).1 in
        let v = wrap (call_site i + 5) in
        let to = wrap (call_site i + 5 + d) in
        let g : Goes 1 s (state count to (inner eax) flags (with_word stack v) []) ((call_site i, to) ∷ []) =
        by_store s (Call d) 5 0xBFFFFFDC v (memory count (with_word stack v)) (inner eax) (To to) refl f refl (store_here count v stack k) in
        let e : v ≡ call_site (suc i) = omega (arith, h) in
        let there : to ≡ function_site count i = omega (arith, h) in
        let g2 = subst (λ v. Goes 1 s (state count to (inner eax) flags (with_word stack v) []) ((call_site i, to) ∷ [])) e g in
        subst (λ to. Goes 1 s (state count to (inner eax) flags (with_word stack (call_site (suc i))) []) ((call_site i, to) ∷ [])) there g2

    -- the flags of its sum
    abbrev sum_flags : ℕ → Flags
    sum_flags eax = (add_result B32 eax (number_added count i) false).flags

    adds : (eax : ℕ) (flags : Flags) (stack : List ℕ) → Goes 1 (state count (function_site count i) (inner eax) flags stack []) (state count (function_site count i + 6) (inner (sum_of count i eax)) (sum_flags eax) stack []) []
    unfolding meaning
    adds eax flags stack =
        let s = state count (function_site count i) (inner eax) flags stack [] in
        let x = number_added count i in
        let f = seen (function_site count i) 6 (Alu 0 B32 (Reg 0) (Imm x)) stack (omega (arith, h), omega (arith, h)) (sites.function i h).1 in
        let to = wrap (function_site count i + 6) in
        let v = (eax + x + 0) % 2 ^ 32 in
        let g : Goes 1 s (state count to (inner v) (sum_flags eax) stack []) [] =
        by_end s (Alu 0 B32 (Reg 0) (Imm x)) 6 (inner v) (all_set (sum_flags eax)) (Past 6) refl f refl in
        let e : v ≡ sum_of count i eax = ap (λ n. n % 2 ^ 32) (omega arith) in
        let there : to ≡ function_site count i + 6 = omega (arith, h) in
        let g2 = subst (λ v. Goes 1 s (state count to (inner v) (sum_flags eax) stack []) []) e g in
        subst (λ to. Goes 1 s (state count to (inner (sum_of count i eax)) (sum_flags eax) stack []) []) there g2

    -- JS, by the sign flag
    jumps : (b : Bool) (sum : ℕ) (flags : Flags) (stack : List ℕ) → flags.sf ≡ b → Goes 1 (state count (function_site count i + 6) (inner sum) flags stack []) (state count (second_site count i b) (inner sum) flags stack []) ((function_site count i + 6, second_site count i b) ∷ [])
    unfolding meaning
    jumps b sum flags stack e =
        let at = function_site count i + 6 in
        let s = state count at (inner sum) flags stack [] in
        let f = seen at 2 (Jcc 8 2) stack (omega (arith, h), omega (arith, h)) (sites.function i h).2.1 in
        let to : Bool → NextEip = λ b. if b then To (wrap (at + 2 + 2)) else Past 2 in
        let g : Goes 1 s (state count (next_eip (to flags.sf) at) (inner sum) flags stack []) ((at, next_eip (to flags.sf) at) ∷ []) =
        by_ask s (Jcc 8 2) 2 SF (inner sum) to refl f refl refl in
        let g2 = subst (λ b. Goes 1 s (state count (next_eip (to b) at) (inner sum) flags stack []) ((at, next_eip (to b) at) ∷ [])) e g in
        subst (λ to. Goes 1 s (state count to (inner sum) flags stack []) ((at, to) ∷ [])) (there b) g2
      where
        there : (b : Bool) → next_eip (if b then To (wrap (function_site count i + 6 + 2 + 2)) else Past 2) (function_site count i + 6) ≡ second_site count i b
        there true = omega (arith, h)
        there false = omega (arith, h)

    inverts : (sum : ℕ) (flags : Flags) (stack : List ℕ) → Goes 1 (state count (function_site count i + 8) (inner sum) flags stack []) (state count (function_site count i + 10) (inner (2 ^ 32 - 1 - sum)) flags stack []) []
    unfolding meaning
    inverts sum flags stack =
        let e : function_site count i + 8 ≡ function_site count i + 6 + 2 = omega arith in
        plain (function_site count i + 8) 2 (function_site count i + 10) (Not B32 (Reg 0)) (inner sum) (inner (2 ^ 32 - 1 - sum)) flags stack []
        (omega (arith, h), omega (arith, h)) (omega arith) (omega (arith, h)) (ap (found_at (demo_of count)) e ∙ (sites.function i h).2.2.1) refl refl

    returns : (eax : ℕ) (flags : Flags) (stack : List ℕ) → IsStack stack → Goes 1 (state count (function_site count i + 10) (inner eax) flags (with_word stack (call_site (suc i))) []) (state count (call_site (suc i)) (outer eax) flags (with_word stack (call_site (suc i))) []) ((function_site count i + 10, call_site (suc i)) ∷ [])
    unfolding meaning
    returns eax flags stack k =
        let at = function_site count i + 10 in
        let e : at ≡ function_site count i + 6 + 2 + 2 = omega arith in
        let v = call_site (suc i) in
        let s = state count at (inner eax) flags (with_word stack v) [] in
        let f = seen at 1 (Ret 0) (with_word stack v) (omega (arith, h), omega (arith, h)) (ap (found_at (demo_of count)) e ∙ (sites.function i h).2.2.2.1) in
        by_load s (Ret 0) 1 0xBFFFFFDC v (λ v. outer eax) (λ v. To v) refl f refl (load_here count v stack few k (omega (arith, h)))

  -- ---- the entry, and the end

  begins : (flags : Flags) (stack : List ℕ) → Goes 1 (state count flat_entry (outer 0) flags stack []) (state count (call_site 0) (outer count) flags stack []) []
  unfolding meaning
  begins flags stack =
      plain flat_entry 5 (call_site 0) (Mov B32 (Reg 0) (Imm count)) (outer 0) (outer count) flags stack [] (omega arith, omega arith) refl (omega arith) sites.entry.1 refl refl

  pushes : (v : ℕ) (flags : Flags) (stack : List ℕ) → IsStack stack → Goes 1 (state count (write_site count) (outer v) flags stack []) (state count (write_site count + 1) (inner v) flags (with_word stack v) []) []
  unfolding meaning
  pushes v flags stack k =
      let at = write_site count in
      let s = state count at (outer v) flags stack [] in
      let f = seen at 1 (Push (Rm (Reg 0))) stack (omega arith, omega arith) sites.write.1 in
      let g : Goes 1 s (state count (wrap (at + 1)) (inner v) flags (with_word stack v) []) [] =
      by_store s (Push (Rm (Reg 0))) 1 0xBFFFFFDC v (memory count (with_word stack v)) (inner v) (Past 1) refl f refl (store_here count v stack k) in
      let e : wrap (at + 1) ≡ at + 1 = omega arith in
      subst (λ to. Goes 1 s (state count to (inner v) flags (with_word stack v) []) []) e g

  module _ (v : ℕ) (flags : Flags) (stack : List ℕ) where
    move_4 : Goes 1 (state count (write_site count + 1) (inner v) flags stack []) (state count (write_site count + 6) (regs_of 4 0 0 0 0xBFFFFFDC) flags stack []) []
    unfolding meaning
    move_4 =
        plain (write_site count + 1) 5 (write_site count + 6) (Mov B32 (Reg 0) (Imm 4)) (inner v) (regs_of 4 0 0 0 0xBFFFFFDC) flags stack []
        (omega arith, omega arith) (omega arith) (omega arith) sites.write.2.1 refl refl

    move_1 : Goes 1 (state count (write_site count + 6) (regs_of 4 0 0 0 0xBFFFFFDC) flags stack []) (state count (write_site count + 11) (regs_of 4 0 0 1 0xBFFFFFDC) flags stack []) []
    unfolding meaning
    move_1 =
        let e : write_site count + 6 ≡ write_site count + 1 + 5 = omega arith in
        plain (write_site count + 6) 5 (write_site count + 11) (Mov B32 (Reg 3) (Imm 1)) (regs_of 4 0 0 0 0xBFFFFFDC) (regs_of 4 0 0 1 0xBFFFFFDC) flags stack []
        (omega arith, omega arith) (omega arith) (omega arith) (ap (found_at (demo_of count)) e ∙ sites.write.2.2.1) refl refl

    move_sp : Goes 1 (state count (write_site count + 11) (regs_of 4 0 0 1 0xBFFFFFDC) flags stack []) (state count (write_site count + 13) (regs_of 4 0xBFFFFFDC 0 1 0xBFFFFFDC) flags stack []) []
    unfolding meaning
    move_sp =
        let e : write_site count + 11 ≡ write_site count + 1 + 5 + 5 = omega arith in
        plain (write_site count + 11) 2 (write_site count + 13) (Mov B32 (Reg 1) (Rm (Reg 4))) (regs_of 4 0 0 1 0xBFFFFFDC) (regs_of 4 0xBFFFFFDC 0 1 0xBFFFFFDC) flags stack []
        (omega arith, omega arith) (omega arith) (omega arith) (ap (found_at (demo_of count)) e ∙ sites.write.2.2.2.1) refl refl

    move_size : Goes 1 (state count (write_site count + 13) (regs_of 4 0xBFFFFFDC 0 1 0xBFFFFFDC) flags stack []) (state count (write_site count + 18) (regs_of 4 0xBFFFFFDC 4 1 0xBFFFFFDC) flags stack []) []
    unfolding meaning
    move_size =
        let e : write_site count + 13 ≡ write_site count + 1 + 5 + 5 + 2 = omega arith in
        plain (write_site count + 13) 5 (write_site count + 18) (Mov B32 (Reg 2) (Imm 4)) (regs_of 4 0xBFFFFFDC 0 1 0xBFFFFFDC) (regs_of 4 0xBFFFFFDC 4 1 0xBFFFFFDC) flags stack []
        (omega arith, omega arith) (omega arith) (omega arith) (ap (found_at (demo_of count)) e ∙ sites.write.2.2.2.2.1) refl refl

  writes : (v : ℕ) (flags : Flags) (stack : List ℕ) → IsStack stack → Goes 1 (state count (write_site count + 18) (regs_of 4 0xBFFFFFDC 4 1 0xBFFFFFDC) flags (with_word stack v) []) (state count (exit_site count) (regs_of 4 0xBFFFFFDC 4 1 0xBFFFFFDC) flags (with_word stack v) (word v)) []
  unfolding meaning system
  writes v flags stack k =
      let at = write_site count + 18 in
      let regs = regs_of 4 0xBFFFFFDC 4 1 0xBFFFFFDC in
      let s = state count at regs flags (with_word stack v) [] in
      let e : at ≡ write_site count + 1 + 5 + 5 + 2 + 5 = omega arith in
      let f = seen at 2 Int80 (with_word stack v) (omega arith, omega arith) (ap (found_at (demo_of count)) e ∙ sites.write.2.2.2.2.2.1) in
      let to = wrap (at + 2) in
      let b = ap (option_map (λ bs. take 4 bs)) (read_here count v stack few k) ∙ ap Some (word_back stack v k) in
      let g : Goes 1 s (state count to regs flags (with_word stack v) (word v)) [] =
      one_step s (state count to regs flags (with_word stack v) (word v)) Int80 2 refl f (ap (λ o. or_bad 0xBFFFFFDC o (λ bs. On (record (answers 4 to s) { out = [] ++ bs }))) b) tt in
      let there : to ≡ exit_site count = omega arith in
      subst (λ to. Goes 1 s (state count to regs flags (with_word stack v) (word v)) []) there g

  -- when it has exited
  abbrev pub exited : Flags → List ℕ → List ℕ → State
  exited flags stack out = record (state count (exit_site count + 12) (regs_of 1 0xBFFFFFDC 4 0 0xBFFFFFDC) flags stack out) { stop = Exited 0 }

  module _ (flags : Flags) (stack out : List ℕ) where
    move_exit : Goes 1 (state count (exit_site count) (regs_of 4 0xBFFFFFDC 4 1 0xBFFFFFDC) flags stack out) (state count (exit_site count + 5) (regs_of 1 0xBFFFFFDC 4 1 0xBFFFFFDC) flags stack out) []
    unfolding meaning
    move_exit =
        plain (exit_site count) 5 (exit_site count + 5) (Mov B32 (Reg 0) (Imm 1)) (regs_of 4 0xBFFFFFDC 4 1 0xBFFFFFDC) (regs_of 1 0xBFFFFFDC 4 1 0xBFFFFFDC) flags stack out
        (omega arith, omega arith) (omega arith) (omega arith) sites.exit.1 refl refl

    move_status : Goes 1 (state count (exit_site count + 5) (regs_of 1 0xBFFFFFDC 4 1 0xBFFFFFDC) flags stack out) (state count (exit_site count + 10) (regs_of 1 0xBFFFFFDC 4 0 0xBFFFFFDC) flags stack out) []
    unfolding meaning
    move_status =
        plain (exit_site count + 5) 5 (exit_site count + 10) (Mov B32 (Reg 3) (Imm 0)) (regs_of 1 0xBFFFFFDC 4 1 0xBFFFFFDC) (regs_of 1 0xBFFFFFDC 4 0 0xBFFFFFDC) flags stack out
        (omega arith, omega arith) (omega arith) (omega arith) sites.exit.2.1 refl refl

    exits : Goes 1 (state count (exit_site count + 10) (regs_of 1 0xBFFFFFDC 4 0 0xBFFFFFDC) flags stack out) (exited flags stack out) []
    unfolding meaning system
    exits =
        let at = exit_site count + 10 in
        let s = state count at (regs_of 1 0xBFFFFFDC 4 0 0xBFFFFFDC) flags stack out in
        let e : at ≡ exit_site count + 5 + 5 = omega arith in
        let f = seen at 2 Int80 stack (omega arith, omega arith) (ap (found_at (demo_of count)) e ∙ sites.exit.2.2.1) in
        let to = wrap (at + 2) in
        let there : to ≡ exit_site count + 12 = omega arith in
        let t : ℕ → State = λ to. record (exited flags stack out) { eip = to } in
        let g : Goes 1 s (t to) [] = one_step s (t to) Int80 2 refl f refl tt in
        subst (λ to. Goes 1 s (t to) []) there g

module _ (splits : RunsSplit) (joins : EdgesSplit) (both : WellDefinedSplits) (count : ℕ) (few : count ≤ 1000) (sites : HasDemoSites count) where
  after : (m n k : ℕ) (s t u : State) (es fs : List Edge) → k ≡ m + n → Goes m s t es → Goes n t u fs → Goes k s u (es ++ fs)
  after m n k s t u es fs e g h = subst (λ k. Goes k s u (es ++ fs)) (sym e) (behind splits joins both m n s t u es fs g h)

  -- the second block of a function: so many steps, and the edge back
  record Second (i sum : ℕ) (b : Bool) (flags : Flags) (stack : List ℕ) : Type 0 where
    steps : ℕ
    bound : steps ≤ 2
    goes : Goes steps (state count (second_site count i b) (inner sum) flags stack []) (state count (call_site (suc i)) (outer (if b then sum else 2 ^ 32 - 1 - sum)) flags stack []) ((function_site count i + 10, call_site (suc i)) ∷ [])

  second : (i : ℕ) → i < count → (b : Bool) (sum : ℕ) (flags : Flags) (stack : List ℕ) → IsStack stack → Second i sum b flags (with_word stack (call_site (suc i)))
  second i h true sum flags stack k = record { steps = 1; bound = omega arith; goes = returns count few sites i h sum flags stack k }
  second i h false sum flags stack k =
      let st = with_word stack (call_site (suc i)) in
      let v = 2 ^ 32 - 1 - sum in
      record {
        steps = 2;
        bound = omega arith;
        goes = after 1 1 2 (state count (function_site count i + 8) (inner sum) flags st []) (state count (function_site count i + 10) (inner v) flags st []) (state count (call_site (suc i)) (outer v) flags st []) []
            ((function_site count i + 10, call_site (suc i)) ∷ []) refl (inverts count few sites i h sum flags st) (returns count few sites i h v flags stack k);
      }

  -- a whole call
  record Called (i eax : ℕ) (flags : Flags) (stack : List ℕ) : Type 0 where
    steps : ℕ
    bound : steps ≤ 5
    after_flags : Flags
    after_stack : List ℕ
    size : IsStack after_stack
    goes : Goes steps (state count (call_site i) (outer eax) flags stack []) (state count (call_site (suc i)) (outer (or_inverted (sum_of count i eax))) after_flags after_stack [])
        ((call_site i, function_site count i) ∷ (function_site count i + 6, second_site count i (sign_bit 32 (sum_of count i eax))) ∷ (function_site count i + 10, call_site (suc i)) ∷ [])

  none : (n : ℕ) → n + 0 ≡ n
  none n = omega arith

  one_call : (i : ℕ) → i < count → (eax : ℕ) (flags : Flags) (stack : List ℕ) → IsStack stack → Called i eax flags stack
  one_call i h eax flags stack k =
      let sum = sum_of count i eax in
      let b = sign_bit 32 sum in
      let fl = sum_flags count few sites i h eax in
      let st = with_word stack (call_site (suc i)) in
      let r = second i h b sum fl stack k in
      let rf = r.bound in
      let s0 = state count (call_site i) (outer eax) flags stack [] in
      let s1 = state count (function_site count i) (inner eax) flags st [] in
      let s2 = state count (function_site count i + 6) (inner sum) fl st [] in
      let s3 = state count (second_site count i b) (inner sum) fl st [] in
      let s4 = state count (call_site (suc i)) (outer (or_inverted sum)) fl st [] in
      let e1 : List Edge = (call_site i, function_site count i) ∷ [] in
      let e2 : List Edge = (function_site count i + 6, second_site count i b) ∷ [] in
      let e3 : List Edge = (function_site count i + 10, call_site (suc i)) ∷ [] in
      let sign : fl.sf ≡ b = ap (λ n. sign_bit 32 (n % 2 ^ 32)) (none (eax + number_added count i)) in
      let g12 = after 1 1 2 s0 s1 s2 e1 [] refl (enter count few sites i h eax flags stack k) (adds count few sites i h eax flags st) in
      let g123 = after 2 1 3 s0 s2 s3 e1 e2 refl g12 (jumps count few sites i h b sum fl st sign) in
      record {
        steps = 3 + r.steps;
        bound = omega arith;
        after_flags = fl;
        after_stack = st;
        size = word_size stack (call_site (suc i)) k;
        goes = after 3 r.steps (3 + r.steps) s0 s3 s4 (e1 ++ e2) e3 refl g123 r.goes;
      }

  -- the first i calls
  record Reached (i : ℕ) : Type 0 where
    steps : ℕ
    bound : steps ≤ 1 + 5 * i
    flags : Flags
    stack : List ℕ
    size : IsStack stack
    goes : Goes steps (state count flat_entry (outer 0) (all_flags false) opening_stack []) (state count (call_site i) (outer (eax_after count i)) flags stack []) (edges_after count i)

  reached : (i : ℕ) → i ≤ count → Reached i
  reached zero h = record {
    steps = 1;
    bound = omega arith;
    flags = all_flags false;
    stack = opening_stack;
    size = opening_size;
    goes = begins count few sites (all_flags false) opening_stack;
  }
  reached (suc i) h =
      let r = reached i (omega (arith, h)) in
      let eax = eax_after count i in
      let c = one_call i (omega (arith, h)) eax r.flags r.stack r.size in
      let rf = r.bound in
      let cf = c.bound in
      record {
        steps = r.steps + c.steps;
        bound = omega arith;
        flags = c.after_flags;
        stack = c.after_stack;
        size = c.size;
        goes = after r.steps c.steps (r.steps + c.steps) (state count flat_entry (outer 0) (all_flags false) opening_stack []) (state count (call_site i) (outer eax) r.flags r.stack []) (state count (call_site (suc i)) (outer (eax_after count (suc i))) c.after_flags c.after_stack [])
            (edges_after count i) (call_edges count i) refl r.goes c.goes;
      }

  ends : (v : ℕ) (flags : Flags) (stack : List ℕ) → IsStack stack → Goes 9 (state count (call_site count) (outer v) flags stack []) (exited count few sites flags (with_word stack v) (word v)) []
  ends v flags stack k =
      let st = with_word stack v in
      let s0 = state count (call_site count) (outer v) flags stack [] in
      let s1 = state count (write_site count + 1) (inner v) flags st [] in
      let s2 = state count (write_site count + 6) (regs_of 4 0 0 0 0xBFFFFFDC) flags st [] in
      let s3 = state count (write_site count + 11) (regs_of 4 0 0 1 0xBFFFFFDC) flags st [] in
      let s4 = state count (write_site count + 13) (regs_of 4 0xBFFFFFDC 0 1 0xBFFFFFDC) flags st [] in
      let s5 = state count (write_site count + 18) (regs_of 4 0xBFFFFFDC 4 1 0xBFFFFFDC) flags st [] in
      let s6 = state count (exit_site count) (regs_of 4 0xBFFFFFDC 4 1 0xBFFFFFDC) flags st (word v) in
      let s7 = state count (exit_site count + 5) (regs_of 1 0xBFFFFFDC 4 1 0xBFFFFFDC) flags st (word v) in
      let s8 = state count (exit_site count + 10) (regs_of 1 0xBFFFFFDC 4 0 0xBFFFFFDC) flags st (word v) in
      let s9 = exited count few sites flags st (word v) in
      let g2 = after 1 1 2 s0 s1 s2 [] [] refl (pushes count few sites v flags stack k) (move_4 count few sites v flags st) in
      let g3 = after 2 1 3 s0 s2 s3 [] [] refl g2 (move_1 count few sites v flags st) in
      let g4 = after 3 1 4 s0 s3 s4 [] [] refl g3 (move_sp count few sites v flags st) in
      let g5 = after 4 1 5 s0 s4 s5 [] [] refl g4 (move_size count few sites v flags st) in
      let g6 = after 5 1 6 s0 s5 s6 [] [] refl g5 (writes count few sites v flags stack k) in
      let g7 = after 6 1 7 s0 s6 s7 [] [] refl g6 (move_exit count few sites flags st (word v)) in
      let g8 = after 7 1 8 s0 s7 s8 [] [] refl g7 (move_status count few sites flags st (word v)) in
      after 8 1 9 s0 s8 s9 [] [] refl g8 (exits count few sites flags st (word v))

  -- the whole run
  pub record Whole : Type 0 where
    pub steps : ℕ
    pub bound : steps ≤ 10 + 5 * count
    pub last : State
    pub shown : observed last ≡ demo_observed count
    pub goes : Goes steps (opening (demo_of count) (arguments []) []) last (edges_after count count)

  pub whole : Whole
  whole =
      let r = reached count (omega arith) in
      let rf = r.bound in
      let v = eax_after count count in
      let last = exited count few sites r.flags (with_word r.stack v) (word v) in
      let first = state count flat_entry (outer 0) (all_flags false) opening_stack [] in
      let g = after r.steps 9 (r.steps + 9) first (state count (call_site count) (outer v) r.flags r.stack []) last (edges_after count count) [] refl r.goes (ends v r.flags r.stack r.size) in
      record {
        steps = r.steps + 9;
        bound = omega arith;
        last = last;
        shown = refl;
        goes = subst (λ s. Goes (r.steps + 9) s last (edges_after count count)) (sym (opens count)) (subst (λ es. Goes (r.steps + 9) first last es) (append-nil (edges_after count count)) g);
      }
