-- The blocks of the demonstration.
use Rattle.std.proofs.Common.{◌≡◌, ℕ, suc, ◌+◌, ◌*◌, ◌<◌, ◌≤◌, Bool, true, false, ◌&&◌, ◌||◌, List, [], ◌∷◌, length, Some, None, ◌⊎◌, inl, inr, refl, sym, ap, ◌∙◌, subst, arith, lit≤}
use Rattle.std.specs.Prelude.{nat_lt}
use Rattle.std.specs.Bool.{then_some}
use Rattle.std.proofs.lemmas.Bool.{le-leb, lt-ltb}
use Rattle.br_word.specs.declared.types.Width.TheVariants.{B32}
use Rattle.ia_inst.specs.declared.inst.Inst.{Inst}
use Rattle.ia_inst.specs.declared.inst.Inst.TheVariants.{Alu, Mov, Not, Push, Jcc, Call, Ret, Int80}
use Rattle.ia_inst.specs.declared.inst.Rm.TheVariants.{Reg}
use Rattle.ia_inst.specs.declared.inst.Src.TheVariants.{Imm, Rm}
use Rattle.ia_inst.specs.declared.inst.Kind.TheVariants as kinds
use Rattle.ia_inst.specs.Step.{There}
use Rattle.elf_read.specs.Elf.{is_exec}
use Rattle.block_cut.specs.declared.ends.End.{End}
use Rattle.block_cut.specs.declared.ends.End.TheVariants.{Transfer, Island, BeforeIsland}
use Rattle.block_cut.specs.Places.{Placed, found_at}
use Rattle.block_cut.specs.Blocks.{BasicBlock, size_of, last_of, StandFrom, EndWith, EndsSo, kind_found, block_of, is_followed, follow_of, EachHasOneBlock}
use Rattle.elf_flat.specs.Flat.{flat_start, flat_entry}
use Rattle.demo_gen.specs.Demonstration.{demo_length}
use Rattle.demo_laws.specs.Accepted.{demo_of}
use Rattle.demo_laws.specs.Sites.{placed, call_site, write_site, exit_site, function_site, number_added, HasDemoSites}
use Rattle.demo_laws.specs.Runs.{second_site, is_negative}
use Rattle.demo_laws.specs.Graph.{second_of}
use Rattle.demo_laws.proofs.Edges.{Made, calls, jumps, returns}

-- a block of the demonstration, and its one known exit
pub data Here (count : ℕ) : ℕ → ℕ → Type 0 where
  entry : Here count flat_entry (function_site count 0)
  call : (i : ℕ) → 0 < i → i < count → Here count (call_site i) (function_site count i)
  write : Here count (write_site count) (write_site count + 18)
  written : Here count (write_site count + 18) (exit_site count)
  exit : Here count (exit_site count) (exit_site count + 10)
  exited : Here count (exit_site count + 10) (function_site count 0)
  function : (i : ℕ) → i < count → Here count (function_site count i) (second_of count i)
  second : (i : ℕ) → i < count → Here count (second_of count i) (call_site (suc i))

-- it ends with a transfer with one edge, or is followed by a block
abbrev pub Way : ℕ → ℕ → ℕ → BasicBlock → Type 0
Way count start to b = ((b.end ≡ Transfer) × Made count (last_of start b.insts) to) ⊎ ((is_followed b.end ≡ true) × (start + size_of b.insts ≡ to) × (is_exec to (demo_of count).segments ≡ true) × ((v : ℕ) × Here count to v))

pub record Fact (count start to : ℕ) : Type 0 where
  pub block : BasicBlock
  pub is : block ≡ block_of (demo_of count) start
  pub short : length block.insts ≤ 5
  pub way : Way count start to block

pub in_code : (count at : ℕ) → flat_start ≤ at → at < flat_start + demo_length count → is_exec at (demo_of count).segments ≡ true
in_code count at low high =
    ap (λ t. (t && nat_lt at (flat_start + demo_length count)) || false) (le-leb flat_start at low) ∙ ap (λ t. t || false) (lt-ltb at (flat_start + demo_length count) high)

module _ (one : EachHasOneBlock) (count : ℕ) (some : 1 ≤ count) (few : count ≤ 1000) (sites : HasDemoSites count) where
  transfers : (start to : ℕ) (is : List Placed) → StandFrom (demo_of count) start is → EndWith kinds.Transfer is → length is ≤ 5 → Made count (last_of start is) to → Fact count start to
  transfers start to is st e l m =
      let b : BasicBlock = record { insts = is; end = Transfer } in
      record { block = b; is = (one (demo_of count) start b).0 (record { stand = st; ends = (e, omega (arith, l)) }); short = l; way = inl (refl, m) }

  followed : (start to v : ℕ) (is : List Placed) (end : End) → StandFrom (demo_of count) start is → EndsSo (demo_of count) (start + size_of is) is end → is_followed end ≡ true → length is ≤ 5 → start + size_of is ≡ to → flat_start ≤ to → to < flat_start + demo_length count → Here count to v → Fact count start to
  followed start to v is end st e f l n low high h =
      let b : BasicBlock = record { insts = is; end = end } in
      record { block = b; is = (one (demo_of count) start b).0 (record { stand = st; ends = e }); short = l; way = inr (f, n, in_code count to low high, (v, h)) }

  at : (a b n : ℕ) (i : Inst) → a ≡ b → found_at (demo_of count) b ≡ There i n → found_at (demo_of count) a ≡ There i n
  at a b n i e f = ap (found_at (demo_of count)) e ∙ f

  fact_entry : Fact count flat_entry (function_site count 0)
  fact_entry =
      transfers flat_entry (function_site count 0) (placed flat_entry ((Mov B32 (Reg 0) (Imm count), 5) ∷ (Call (27 + 5 * count + 6 * 0), 5) ∷ []))
      (refl, sites.entry.1, (refl, (sites.call 0 (omega arith)).1, tt)) (refl, refl) (lit≤ tt) (calls 0 (omega arith))

  fact_call : (i : ℕ) → i < count → Fact count (call_site i) (function_site count i)
  fact_call i h =
      transfers (call_site i) (function_site count i) (placed (call_site i) ((Call (27 + 5 * count + 6 * i), 5) ∷ []))
      (sites.call i h) refl (lit≤ tt) (calls i h)

  fact_function : (i : ℕ) → i < count → Fact count (function_site count i) (second_of count i)
  fact_function i h =
      let f = sites.function i h in
      transfers (function_site count i) (second_of count i) (placed (function_site count i) ((Alu 0 B32 (Reg 0) (Imm (number_added count i)), 6) ∷ (Jcc 8 2, 2) ∷ []))
      (refl, f.1, (refl, f.2.1, tt)) (refl, refl) (lit≤ tt) (jumps i h)

  fact_second : (i : ℕ) → i < count → (b : Bool) → Fact count (second_site count i b) (call_site (suc i))
  fact_second i h true =
      let f = sites.function i h in
      let base = function_site count i in
      transfers (base + 10) (call_site (suc i)) (placed (base + 10) ((Ret 0, 1) ∷ []))
      (refl, at (base + 10) (base + 6 + 2 + 2) 1 (Ret 0) (omega arith) f.2.2.2.1, tt) refl (lit≤ tt) (returns i h)
  fact_second i h false =
      let f = sites.function i h in
      let base = function_site count i in
      let e : base + 8 + 2 ≡ base + 10 = omega arith in
      transfers (base + 8) (call_site (suc i)) (placed (base + 8) ((Not B32 (Reg 0), 2) ∷ (Ret 0, 1) ∷ []))
      (refl, at (base + 8) (base + 6 + 2) 2 (Not B32 (Reg 0)) (omega arith) f.2.2.1, (refl, at (base + 8 + 2) (base + 6 + 2 + 2) 1 (Ret 0) (omega arith) f.2.2.2.1, tt))
      (refl, refl) (lit≤ tt) (subst (λ a. Made count a (call_site (suc i))) (sym e) (returns i h))

  before_call : (a b : ℕ) → a ≡ b → found_at (demo_of count) b ≡ There Int80 2 → kind_found (found_at (demo_of count) a) ≡ Some kinds.Island
  before_call a b e f = ap kind_found (at a b 2 Int80 e f)

  fact_write : Fact count (write_site count) (write_site count + 18)
  fact_write =
      let w = sites.write in
      followed (write_site count) (write_site count + 18) (exit_site count)
      (placed (write_site count) ((Push (Rm (Reg 0)), 1) ∷ (Mov B32 (Reg 0) (Imm 4), 5) ∷ (Mov B32 (Reg 3) (Imm 1), 5) ∷ (Mov B32 (Reg 1) (Rm (Reg 4)), 2) ∷ (Mov B32 (Reg 2) (Imm 4), 5) ∷ []))
      BeforeIsland
      (refl, w.1, (refl, w.2.1, (refl, w.2.2.1, (refl, w.2.2.2.1, (refl, w.2.2.2.2.1, tt)))))
      ((refl, (refl, (refl, (refl, (refl, tt))))), omega arith, omega arith, before_call (write_site count + 18) (write_site count + 1 + 5 + 5 + 2 + 5) (omega arith) w.2.2.2.2.2.1)
      refl (lit≤ tt) refl (omega arith) (omega arith) written

  fact_written : Fact count (write_site count + 18) (exit_site count)
  fact_written =
      let w = sites.write in
      followed (write_site count + 18) (exit_site count) (exit_site count + 10) (placed (write_site count + 18) ((Int80, 2) ∷ [])) Island
      (refl, at (write_site count + 18) (write_site count + 1 + 5 + 5 + 2 + 5) 2 Int80 (omega arith) w.2.2.2.2.2.1, tt)
      (refl, refl) refl (lit≤ tt) (omega arith) (omega arith) (omega arith) exit

  fact_exit : Fact count (exit_site count) (exit_site count + 10)
  fact_exit =
      let x = sites.exit in
      followed (exit_site count) (exit_site count + 10) (function_site count 0) (placed (exit_site count) ((Mov B32 (Reg 0) (Imm 1), 5) ∷ (Mov B32 (Reg 3) (Imm 0), 5) ∷ [])) BeforeIsland
      (refl, x.1, (refl, x.2.1, tt))
      ((refl, (refl, tt)), omega arith, omega arith, before_call (exit_site count + 10) (exit_site count + 5 + 5) (omega arith) x.2.2.1)
      refl (lit≤ tt) refl (omega arith) (omega arith) exited

  fact_exited : Fact count (exit_site count + 10) (function_site count 0)
  fact_exited =
      let x = sites.exit in
      followed (exit_site count + 10) (function_site count 0) (second_of count 0) (placed (exit_site count + 10) ((Int80, 2) ∷ [])) Island
      (refl, at (exit_site count + 10) (exit_site count + 5 + 5) 2 Int80 (omega arith) x.2.2.1, tt)
      (refl, refl) refl (lit≤ tt) (omega arith) (omega arith) (omega arith) (function 0 (omega arith))

  pub fact : (s t : ℕ) → Here count s t → Fact count s t
  fact s t entry = fact_entry
  fact s t (call i p h) = fact_call i h
  fact s t write = fact_write
  fact s t written = fact_written
  fact s t exit = fact_exit
  fact s t exited = fact_exited
  fact s t (function i h) = fact_function i h
  fact s t (second i h) = fact_second i h (is_negative count i)

  -- ---- following starts

  by_block : (s t : ℕ) (f : Fact count s t) → follow_of (demo_of count) s ≡ then_some (is_followed f.block.end && is_exec (s + size_of f.block.insts) (demo_of count).segments) (s + size_of f.block.insts)
  unfolding follow_of
  by_block s t f = sym (ap (λ b. then_some (is_followed b.end && is_exec (s + size_of b.insts) (demo_of count).segments) (s + size_of b.insts)) f.is)

  pub no_follow : (s t : ℕ) (f : Fact count s t) → f.block.end ≡ Transfer → follow_of (demo_of count) s ≡ None
  no_follow s t f e = by_block s t f ∙ ap (λ e. then_some (is_followed e && is_exec (s + size_of f.block.insts) (demo_of count).segments) (s + size_of f.block.insts)) e

  pub follow_is : (s t : ℕ) (f : Fact count s t) → is_followed f.block.end ≡ true → s + size_of f.block.insts ≡ t → is_exec t (demo_of count).segments ≡ true → follow_of (demo_of count) s ≡ Some t
  follow_is s t f e n x =
      by_block s t f
      ∙ ap (λ b. then_some (b && is_exec (s + size_of f.block.insts) (demo_of count).segments) (s + size_of f.block.insts)) e
      ∙ ap (λ n. then_some (is_exec n (demo_of count).segments) n) n
      ∙ ap (λ b. then_some b t) x

  -- the two system calls follow the blocks before them, and so does what stands behind them
  pub follow_write : follow_of (demo_of count) (write_site count) ≡ Some (write_site count + 18)
  unfolding fact_write followed
  follow_write = follow_is (write_site count) (write_site count + 18) fact_write refl refl (in_code count (write_site count + 18) (omega arith) (omega arith))

  pub follow_written : follow_of (demo_of count) (write_site count + 18) ≡ Some (exit_site count)
  unfolding fact_written followed
  follow_written = follow_is (write_site count + 18) (exit_site count) fact_written refl (omega arith) (in_code count (exit_site count) (omega arith) (omega arith))

  pub follow_exit : follow_of (demo_of count) (exit_site count) ≡ Some (exit_site count + 10)
  unfolding fact_exit followed
  follow_exit = follow_is (exit_site count) (exit_site count + 10) fact_exit refl refl (in_code count (exit_site count + 10) (omega arith) (omega arith))

  -- a following start has a block of the list
  pub goes_on : (s t u : ℕ) → Here count s t → follow_of (demo_of count) s ≡ Some u → (v : ℕ) × Here count u v
  goes_on s t u h e = go (fact s t h) (fact s t h).way
    where
      none_some : (u : ℕ) → None ≡ Some u → ⊥
      none_some u e = cc

      same : (t u : ℕ) → Some t ≡ Some u → t ≡ u
      same t u e = cc

      go : (f : Fact count s t) → Way count s t f.block → (v : ℕ) × Here count u v
      go f (inl w) = absurd (none_some u (sym (no_follow s t f w.0) ∙ e))
      go f (inr w) = subst (λ u. (v : ℕ) × Here count u v) (same t u (sym (follow_is s t f w.0 w.1 w.2) ∙ e)) w.3
