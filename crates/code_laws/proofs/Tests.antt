-- Tests before a jump.
use Rattle.std.proofs.Common.{ℕ, nat_eq, List, [], ◌∷◌, refl, ap, arith}
use Rattle.std.specs.Prelude.{◌==◌}
use Rattle.br_word.specs.Memory.{Region}
use Rattle.br_word.specs.State.{State}
use Rattle.br_word.specs.declared.types.Width.TheVariants.{B32}
use Rattle.ia_inst.specs.declared.inst.Src.TheVariants as src
use Rattle.ia_inst.specs.declared.inst.Inst.TheVariants.{Alu, Test}
use Rattle.par_moves.specs.declared.locations.Place.TheVariants.{Reg}
use Rattle.par_moves.specs.declared.locations.MoveSource.TheVariants.{Num}
use Rattle.par_moves.specs.Locations.{held}
use Rattle.emit_ops.specs.Templates.{eax, load_reg}
use Rattle.code_laws.specs.Seen.{Cells, IsCode, Sees}
use Rattle.code_laws.specs.Laws.{Tested, TestsMean}
use Rattle.code_laws.proofs.Ops.{OMov, OTest, OCmp}
use Rattle.code_laws.proofs.Gives.{eq_test, and_self}
use Rattle.code_laws.proofs.Means.{ops_lead}

module _ {code : Region} (here : IsCode code) where
  pub tests_mean : (s : State) (a : Cells) (to : ℕ) (cs : List ℕ) → Sees code s a → TestsMean code s a to cs
  tests_mean s a to cs h = record {
    test = λ x hx st.
        ops_lead here (OMov (Reg 0) x ∷ OTest ∷ []) (load_reg 0 x ∷ Test B32 eax (src.Rm eax) ∷ []) s a to cs (Tested a (held a.cell x) (nat_eq (held a.cell x) 0)) refl h ((omega arith, hx.1), (tt, tt))
        (λ ds. record { zf = ap (λ v. v == 0) (and_self (held a.cell x)); eax = refl; others = λ q k. simp k.not_eax; df = refl; besides = record { outer = refl; seen = refl; brk_start = refl; brk = refl } }) st;
    compare = λ n l st.
        ops_lead here (OCmp (Num n) ∷ []) (Alu 7 B32 eax (src.Imm n) ∷ []) s a to cs (Tested a (a.cell (Reg 0)) (nat_eq (a.cell (Reg 0)) n)) refl h (l, tt)
        (λ ds. record { zf = eq_test (a.cell (Reg 0)) n (h.small (Reg 0) (omega arith)) l; eax = refl; others = λ q k. refl; df = refl; besides = record { outer = refl; seen = refl; brk_start = refl; brk = refl } }) st;
  }
