-- What has a spelling is valid, and what is valid has its canonical one.
use Rattle.std.proofs.Common.{◌≡◌, ℕ, zero, suc, ◌^◌, ◌<◌, Bool, true, false, cond, not, ◌==◌, ◌&&◌, ◌||◌, List, Option, Some, None, refl, ap, arith}
use Rattle.std.specs.Prelude.{nat_lt}
use Rattle.std.proofs.lemmas.Bool.Decides.{nat_tests}
use Rattle.ia_inst.specs.declared.inst.Addr.{Addr}
use Rattle.ia_inst.specs.declared.inst.Rm.{Rm}
use Rattle.ia_inst.specs.declared.inst.Rm.TheVariants.{Reg}
use Rattle.ia_inst.specs.declared.inst.Src.TheVariants as src
use Rattle.br_word.specs.declared.types.Width.{Width}
use Rattle.br_word.specs.declared.types.Width.TheVariants.{B8, B16, B32}
use Rattle.ia_inst.specs.declared.inst.Inst.{Inst}
use Rattle.ia_inst.specs.Operands.{extended, scaled, Displacement, nothing, byte, word, Based, base, no_base, Memory, sib, plain, Operand, register, memory}
use Rattle.ia_inst.specs.Spells as spells
use Rattle.ia_inst.specs.Spells.{Row, Spells, limit, IsLong, extended_to, ShiftField}
use Rattle.ia_inst.specs.Canonical.{index_valid, address_valid, rm_valid, imm_valid, move_valid, is_long, widens, valid_of}

-- ---- tests

lt_test : (a b : ℕ) → a < b → nat_lt a b ≡ true
lt_test a b h = grind (arith, nat_tests)

two_tests : (a b : Bool) → a ≡ true → b ≡ true → (a && b) ≡ true
two_tests a b p q = rw (p, q) refl

-- ---- what is spelled is valid

imm_is : (w : Width) (n : ℕ) → n < limit w → imm_valid w n ≡ true
imm_is B8 n lt = lt_test n 256 lt
imm_is B16 n lt = lt_test n 65536 lt
imm_is B32 n lt = lt_test n 4294967296 lt

extended_low : (d : ℕ) → d < 256 → extended d < 2 ^ 32
extended_low d lt = grind (arith, nat_tests)

extended_to_low : (w : Width) (d : ℕ) → d < 256 → extended_to w d < limit w
extended_to_low B8 d lt = lt
extended_to_low B16 d lt = grind (arith, nat_tests)
extended_to_low B32 d lt = extended_low d lt

displacement_is : {m d : ℕ} {bytes : List ℕ} → Displacement m bytes d → imm_valid B32 d ≡ true
displacement_is nothing = refl
displacement_is (byte d lt) = imm_is B32 (extended d) (extended_low d lt)
displacement_is (word d lt) = imm_is B32 d lt

based_is : {m r : ℕ} {index : Option (ℕ × ℕ)} {bytes : List ℕ} {a : Addr} → Based m r index bytes a → index_valid index ≡ true → address_valid a ≡ true
based_is (base m r index bytes d lt h disp) v = rw (lt_test r 8 lt, v, displacement_is disp) refl
based_is (no_base index d lt) v = rw (v, imm_is B32 d lt) refl

scaled_is : (x s : ℕ) → x < 8 → s < 4 → index_valid (scaled x s) ≡ true
scaled_is x s p q = by_test (x == 4) refl
  where
    by_scale : (s : ℕ) → s < 4 → ((2 ^ s == 1) || ((2 ^ s == 2) || ((2 ^ s == 4) || (2 ^ s == 8)))) ≡ true
    by_scale zero h = refl
    by_scale (suc zero) h = refl
    by_scale (suc (suc zero)) h = refl
    by_scale (suc (suc (suc zero))) h = refl
    by_scale (suc (suc (suc (suc s)))) h = absurd (omega arith)

    by_test : (t : Bool) → (x == 4) ≡ t → index_valid (cond t None (Some (x, 2 ^ s))) ≡ true
    by_test true e = refl
    by_test false e = two_tests (nat_lt x 8 && not (x == 4)) _ (two_tests (nat_lt x 8) (not (x == 4)) (lt_test x 8 p) (ap not e)) (by_scale s q)

memory_is : {m r : ℕ} {bytes : List ℕ} {a : Addr} → Memory m r bytes a → address_valid a ≡ true
memory_is (sib m s x r bytes a p q h) = based_is h (scaled_is x s q p)
memory_is (plain m r bytes a n h) = based_is h refl

operand_is : {m : List ℕ} {g : ℕ} {a : Rm} → Operand m g a → (g < 8) × (rm_valid a ≡ true)
operand_is (register g r p q) = (p, lt_test r 8 q)
operand_is (memory m g r bytes a p h) = (p, memory_is h)

to_is : {m : List ℕ} {g : ℕ} {a : Rm} (w : Width) → Operand m g a → move_valid w a (src.Rm (Reg g)) ≡ true
to_is {a = a} w h = let k = operand_is h in two_tests (rm_valid a) _ k.1 (lt_test _ 8 k.0)

from_is : {m : List ℕ} {g : ℕ} {a : Rm} (w : Width) → Operand m g a → move_valid w (Reg g) (src.Rm a) ≡ true
from_is w (register g r p q) = two_tests (nat_lt g 8) (nat_lt r 8) (lt_test g 8 p) (lt_test r 8 q)
from_is w (memory m g r bytes a p h) = two_tests (nat_lt g 8) (address_valid a) (lt_test g 8 p) (memory_is h)

with_imm : {m : List ℕ} {g : ℕ} {a : Rm} (w : Width) (n : ℕ) → Operand m g a → n < limit w → (rm_valid a && imm_valid w n) ≡ true
with_imm {a = a} w n h lt = two_tests (rm_valid a) (imm_valid w n) (operand_is h).1 (imm_is w n lt)

long_is : (w : Width) → IsLong w → is_long w ≡ true
long_is B8 h = absurd h
long_is B16 h = refl
long_is B32 h = refl

widens_is : (w : Width) → IsLong w → widens B8 w ≡ true
widens_is B8 h = absurd h
widens_is B16 h = refl
widens_is B32 h = refl

with_reg : {m : List ℕ} {g : ℕ} {a : Rm} → Operand m g a → (nat_lt g 8 && rm_valid a) ≡ true
with_reg {g = g} {a = a} h = let k = operand_is h in two_tests (nat_lt g 8) (rm_valid a) (lt_test g 8 k.0) k.1

pub row_valid : {bytes : List ℕ} {i : Inst} → Row bytes i → valid_of i ≡ true
row_valid (spells.row1 k g w m a lt there) = two_tests (nat_lt k 8) _ (lt_test k 8 lt) (to_is w there)
row_valid (spells.row2 k g w m a lt there) = two_tests (nat_lt k 8) _ (lt_test k 8 lt) (from_is w there)
row_valid (spells.row3 k n w lt fits) = two_tests (nat_lt k 8) _ (lt_test k 8 lt) (imm_is w n fits)
row_valid (spells.row4 k n m a there lt) = two_tests (nat_lt k 8) _ (lt_test k 8 (operand_is there).0) (with_imm B8 n there lt)
row_valid (spells.row5 k d w m a long there lt) = two_tests (nat_lt k 8) _ (lt_test k 8 (operand_is there).0) (with_imm w (extended_to w d) there (extended_to_low w d lt))
row_valid (spells.row6 k n w m a long there fits) = two_tests (nat_lt k 8) _ (lt_test k 8 (operand_is there).0) (with_imm w n there fits)
row_valid (spells.row7 g w m a there) = to_is w there
row_valid (spells.row8 n w fits) = imm_is w n fits
row_valid (spells.row9 n w m a there fits) = with_imm w n there fits
row_valid (spells.row10 g w m a there) = to_is w there
row_valid (spells.row11 g w m a there) = from_is w there
row_valid (spells.row12_byte r n lt fits) = two_tests (nat_lt r 8) _ (lt_test r 8 lt) (imm_is B8 n fits)
row_valid (spells.row12 r n w long lt fits) = two_tests (nat_lt r 8) _ (lt_test r 8 lt) (imm_is w n fits)
row_valid (spells.row13 n w m a there fits) = with_imm w n there fits
row_valid (spells.row14_load d w lt) = imm_is B32 d lt
row_valid (spells.row14_store d w lt) = two_tests (imm_valid B32 d) true (imm_is B32 d lt) refl
row_valid (spells.row15 g true p m a pad there) = with_reg there
row_valid (spells.row15 g false p m a pad there) = with_reg there
row_valid (spells.row16 g w m a there) = to_is w there
row_valid (spells.row17 r w long low lt) = two_tests (nat_lt r 8) true (lt_test r 8 lt) refl
row_valid (spells.row18_inc r w long lt) = lt_test r 8 lt
row_valid (spells.row18_dec r w long lt) = lt_test r 8 lt
row_valid (spells.row19_inc w m a there) = (operand_is there).1
row_valid (spells.row19_dec w m a there) = (operand_is there).1
row_valid (spells.row20_not w m a there) = (operand_is there).1
row_valid (spells.row20_neg w m a there) = (operand_is there).1
row_valid (spells.row21 r lt) = lt_test r 8 lt
row_valid (spells.row22 d lt) = imm_is B32 (extended d) (extended_low d lt)
row_valid (spells.row23 n lt) = imm_is B32 n lt
row_valid (spells.row24 m a there) = (operand_is there).1
row_valid (spells.row25 r lt) = lt_test r 8 lt
row_valid (spells.row26 m a there) = (operand_is there).1
row_valid (spells.row27 g m a high there) = two_tests (nat_lt 3 g && nat_lt g 8) (rm_valid a) (two_tests (nat_lt 3 g) (nat_lt g 8) (lt_test 3 g high) (lt_test g 8 (operand_is there).0)) (operand_is there).1
row_valid (spells.row28 g m a there) = two_tests (nat_lt g 8) _ (lt_test g 8 (operand_is there).0) (two_tests (rm_valid a) true (operand_is there).1 refl)
row_valid (spells.row29 g d m a there lt) = two_tests (nat_lt g 8) _ (lt_test g 8 (operand_is there).0) (with_imm B32 (extended d) there (extended_low d lt))
row_valid (spells.row30 g n m a there lt) = two_tests (nat_lt g 8) _ (lt_test g 8 (operand_is there).0) (with_imm B32 n there lt)
row_valid (spells.row31 g op w m a field there) = two_tests (rm_valid a) true (operand_is there).1 refl
row_valid (spells.row32 g n op w m a field there lt) = with_imm B8 n there lt
row_valid (spells.row33 g op w m a field there) = two_tests (rm_valid a) true (operand_is there).1 refl
row_valid (spells.row34_one g right m a field there) = two_tests (rm_valid a) true (operand_is there).1 refl
row_valid (spells.row34_byte g n right m a field there lt) = with_imm B8 n there lt
row_valid (spells.row34_cl g right m a field there) = two_tests (rm_valid a) true (operand_is there).1 refl
row_valid spells.row35_cwde = refl
row_valid spells.row35_cdq = refl
row_valid (spells.row36_zero g w m a long there) = two_tests (widens B8 w) _ (widens_is w long) (with_reg there)
row_valid (spells.row36_signed g w m a long there) = two_tests (widens B8 w) _ (widens_is w long) (with_reg there)
row_valid (spells.row37_zero g m a there) = with_reg there
row_valid (spells.row37_signed g m a there) = with_reg there
row_valid (spells.row38 c g m a lt there) = two_tests (nat_lt c 16) _ (lt_test c 16 lt) (operand_is there).1
row_valid (spells.row39 c g m a lt there) = two_tests (nat_lt c 16) _ (lt_test c 16 lt) (with_reg there)
row_valid (spells.row40 c n lt fits) = two_tests (nat_lt c 16) _ (lt_test c 16 lt) (imm_is B32 n fits)
row_valid (spells.row41 c d lt fits) = two_tests (nat_lt c 16) _ (lt_test c 16 lt) (imm_is B32 (extended d) (extended_low d fits))
row_valid (spells.row42 n lt) = imm_is B32 n lt
row_valid (spells.row43 d lt) = imm_is B32 (extended d) (extended_low d lt)
row_valid (spells.row44 p m a prefix there) = (operand_is there).1
row_valid (spells.row45 n lt) = imm_is B32 n lt
row_valid (spells.row46 p m a prefix there) = (operand_is there).1
row_valid (spells.row47 p prefix) = refl
row_valid (spells.row48 n lt) = imm_is B16 n lt
row_valid spells.row49 = refl
row_valid (spells.row50 w rep p prefix) = refl
row_valid (spells.row51 w rep p prefix) = refl
row_valid spells.row52_cld = refl
row_valid spells.row52_std = refl
row_valid spells.row52_sahf = refl
row_valid spells.row53 = refl
row_valid spells.row54 = refl
row_valid spells.row55_size = refl
row_valid spells.row55_pause = refl
row_valid (spells.row55_long wide p m a pad there) = refl
row_valid spells.row55_end = refl
