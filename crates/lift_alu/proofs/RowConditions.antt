-- Rows that read conditions: SETcc, CMOV and Jcc.
use Rattle.std.proofs.Common.{◌≡◌, ℕ, zero, suc, ◌+◌, ◌/◌, ◌%◌, ◌^◌, ◌<◌, Bool, true, false, ap, subst, ◌∙◌, refl, arith, get_or, set, List}
use Rattle.std.specs.Prelude.{not, ◌||◌, ◌==◌, if◌then◌else◌, bit_or, bit_xor}
use Rattle.br_word.specs.declared.types.Width.TheVariants.{B8, B32}
use Rattle.br_word.specs.Words.{bit}
use Rattle.br_word.specs.Flags.{differ}
use Rattle.br_word.specs.Memory.{Region}
use Rattle.br_word.specs.State.{Processor}
use Rattle.br_word.proofs.Sums.{or_bits, xor_bits}
use Rattle.ia_inst.specs.declared.inst.Inst.TheVariants.{Setcc, Cmov, Jcc}
use Rattle.ia_inst.specs.declared.inst.Rm.{Rm}
use Rattle.ia_inst.specs.Canonical.{rm_valid}
use Rattle.ia_inst.specs.Kinds.{pair_flags, condition_flags}
use Rattle.ia_inst.specs.Step.{AllMarked, next_eip}
use Rattle.ia_inst.specs.Act.{Act, Completion, Next, NextEip, Past, To, perform}
use Rattle.ia_inst.specs.Act as act
use Rattle.ia_inst.specs.Meaning.{wrap, no_changes, condition, even_condition, of_rm, to_rm, meaning}
use Rattle.ssa_form.specs.Value.{select_value}
use Rattle.lift_alu.specs.Steps.{Lit, Op, worth}
use Rattle.ssa_form.specs.declared.form.BinOp.TheVariants.{Xor}
use Rattle.std.proofs.lemmas.List.{set-get_or}
use Rattle.lift_alu.specs.Table.{b', even_expr, condition_expr}
use Rattle.lift_alu.proofs.Frames.{RowMeans, Given, start, reads, name_as, done, bit_small}
use Rattle.lift_alu.proofs.RowMoves.{writes_new, target}

-- what the act goes on with, and that the expression has its value wherever the flags are those before the row
pub record Tested (c : ℕ) (u : Processor) (p : ℕ → ℕ) (m : List Region) (go : Bool → Act) (e : Completion) : Type 0 where
  pub test : Bool
  pub rest : perform (go test) 0 u m ≡ e
  pub is : (names : ℕ → ℕ) (n : List Region) → worth (condition_expr c) (record (start u p m) { names = names; mem = n }) ≡ bit test

record Even (c : ℕ) (u : Processor) (p : ℕ → ℕ) (m : List Region) (go : Bool → Act) (e : Completion) : Type 0 where
  test : Bool
  rest : perform (go test) 0 u m ≡ e
  is : (names : ℕ → ℕ) (n : List Region) → worth (even_expr c) (record (start u p m) { names = names; mem = n }) ≡ bit test

two_or : (x y : ℕ) (a b : Bool) → x ≡ bit a → y ≡ bit b → bit_or x y ≡ bit (a || b)
two_or x y a b q r = ap (λ t. bit_or t y) q ∙ ap (λ t. bit_or (bit a) t) r ∙ or_bits a b

two_xor : (x y : ℕ) (a b : Bool) → x ≡ bit a → y ≡ bit b → bit_xor x y ≡ bit (differ a b)
two_xor x y a b q r = ap (λ t. bit_xor t y) q ∙ ap (λ t. bit_xor (bit a) t) r ∙ xor_bits a b

module _ (u : Processor) (p : ℕ → ℕ) (m : List Region) (g : Given u p m) (e : Completion) where
  even : (c : ℕ) (go : Bool → Act) → c < 8 → AllMarked u.marks (pair_flags c) → perform (even_condition c go) 0 u m ≡ e → Even c u p m go e
  even zero go l k q = record { test = u.flags.of; rest = q; is = λ _ _. g.of.agrees k.0 }
  even (suc zero) go l k q = record { test = u.flags.cf; rest = q; is = λ _ _. g.cf.agrees k.0 }
  even (suc (suc zero)) go l k q = record { test = u.flags.zf; rest = q; is = λ _ _. g.zf.agrees k.0 }
  even (suc (suc (suc zero))) go l k q = record { test = u.flags.cf || u.flags.zf; rest = q; is = λ _ _. two_or _ _ _ _ (g.cf.agrees k.0) (g.zf.agrees k.1.0) }
  even (suc (suc (suc (suc zero)))) go l k q = record { test = u.flags.sf; rest = q; is = λ _ _. g.sf.agrees k.0 }
  even (suc (suc (suc (suc (suc zero))))) go l k q = record { test = u.flags.pf; rest = q; is = λ _ _. g.pf.agrees k.0 }
  even (suc (suc (suc (suc (suc (suc zero)))))) go l k q = record { test = differ u.flags.sf u.flags.of; rest = q; is = λ _ _. two_xor _ _ _ _ (g.sf.agrees k.0) (g.of.agrees k.1.0) }
  even (suc (suc (suc (suc (suc (suc (suc zero))))))) go l k q = record { test = u.flags.zf || differ u.flags.sf u.flags.of; rest = q; is = λ _ _. two_or _ _ _ _ (g.zf.agrees k.0) (two_xor _ _ _ _ (g.sf.agrees k.1.0) (g.of.agrees k.1.1.0)) }
  even (suc (suc (suc (suc (suc (suc (suc (suc c)))))))) go l k q = absurd (omega arith)

  odd_test : (b : Bool) (x : ℕ) → x ≡ bit b → bit_xor x 1 ≡ bit (not b)
  odd_test true x q = ap (λ t. bit_xor t 1) q
  odd_test false x q = ap (λ t. bit_xor t 1) q

  pub tested : (c : ℕ) (go : Bool → Act) → c < 16 → AllMarked u.marks (condition_flags c) → perform (condition c go) 0 u m ≡ e → Tested c u p m go e
  tested c go l k q = by_parity (c % 2 == 1) refl (even (c / 2) (λ b. go (if c % 2 == 1 then not b else b)) (omega arith) k q)
    where
      by_parity : (odd : Bool) → (c % 2 == 1) ≡ odd → Even (c / 2) u p m (λ b. go (if c % 2 == 1 then not b else b)) e → Tested c u p m go e
      by_parity true o h = record {
        test = not h.test;
        rest = subst (λ (t : Bool). perform (go (if t then not h.test else h.test)) 0 u m ≡ e) o h.rest;
        is = λ names n. ap (λ (t : Bool). worth (if t then Op Xor (even_expr (c / 2)) (Lit 1) else even_expr (c / 2)) (record (start u p m) { names = names; mem = n })) o ∙ odd_test h.test _ (h.is names n);
      }
      by_parity false o h = record {
        test = h.test;
        rest = subst (λ (t : Bool). perform (go (if t then not h.test else h.test)) 0 u m ≡ e) o h.rest;
        is = λ names n. ap (λ (t : Bool). worth (if t then Op Xor (even_expr (c / 2)) (Lit 1) else even_expr (c / 2)) (record (start u p m) { names = names; mem = n })) o ∙ h.is names n;
      }

pub setcc_row : (c : ℕ) (dst : Rm) → c < 16 → rm_valid dst ≡ true → RowMeans (Setcc c dst)
unfolding meaning
setcc_row c dst l i at n u v p m ms to g k q =
    let t = tested u p m g (Next v ms to) c (λ b. to_rm B8 dst (bit b) u.regs (λ regs. act.Ends regs u.df no_changes (Past n))) l k q in
    let small : bit t.test < 2 ^ 8 = let b = bit_small t.test in omega arith in
    name_as (bit t.test) (t.is _ m)
    (writes_new u v ms to B8 dst b' (bit t.test) _ g.small i small (λ p0. refl) t.rest (λ p0 g1 m1 qc.
    done u v ms to _ qc (record { gpr = refl; cf = g.cf; pf = g.pf; zf = g.zf; sf = g.sf; of = g.of; df = g.df; mem = refl; exit = refl })))

-- a register gets a value, or keeps its own
moved : (b : Bool) (x old dst : ℕ) (g : List ℕ) → old ≡ get_or g dst 0 → set g dst (select_value (bit b) x old) ≡ (if b then set g dst x else g)
moved true x old dst g q = refl
moved false x old dst g q = ap (set g dst) q ∙ set-get_or g dst 0

pub cmov_row : (c dst : ℕ) (x : Rm) → c < 16 → rm_valid x ≡ true → RowMeans (Cmov c dst x)
unfolding meaning
cmov_row c dst x l i at n u v p m ms to g k q =
    let t = tested u p m g (Next v ms to) c (λ b. of_rm B32 x u.regs (λ y. act.Ends (if b then set u.regs dst y else u.regs) u.df no_changes (Past n))) l k q in
    reads u v ms to 1 3 B32 x (λ y. act.Ends (if t.test then set u.regs dst y else u.regs) u.df no_changes (Past n)) g.small g.bytes i t.rest (λ p1 b lies bl qb.
    name_as (bit t.test) (t.is _ m)
    (done u v ms to _ qb (record { gpr = moved t.test b _ dst u.regs refl; cf = g.cf; pf = g.pf; zf = g.zf; sf = g.sf; of = g.of; df = g.df; mem = refl; exit = refl })))

goes : (b : Bool) (at n rel : ℕ) → select_value (bit b) (wrap (wrap (at + n) + rel)) (wrap (at + n)) ≡ next_eip (if b then To (wrap (at + n + rel)) else Past n) at
goes true at n rel = target at n rel
goes false at n rel = refl

pub jcc_row : (c rel : ℕ) → c < 16 → RowMeans (Jcc c rel)
unfolding meaning
jcc_row c rel l at n u v p m ms to g k q =
    let t = tested u p m g (Next v ms to) c (λ b. act.Ends u.regs u.df no_changes (if b then To (wrap (at + n + rel)) else Past n)) l k q in
    name_as (bit t.test) (t.is _ m)
    (done u v ms to _ t.rest (record { gpr = refl; cf = g.cf; pf = g.pf; zf = g.zf; sf = g.sf; of = g.of; df = g.df; mem = refl; exit = goes t.test at n rel }))
