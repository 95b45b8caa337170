-- Numbers stay below 2 ^ 32, and memory keeps bytes.
use Rattle.std.proofs.Common.{◌≡◌, ℕ, zero, suc, ◌+◌, ◌-◌, ◌*◌, ◌%◌, ◌^◌, ◌<◌, Bool, true, false, cond, subst, refl, arith, Option, Some, None, List, [], ◌∷◌, ◌++◌, length, take, drop, pow-suc}
use Rattle.std.specs.Prelude.{ℤ, pos, negsuc, ◌==◌, option_map, ◌&&◌, if◌then◌else◌}
use Rattle.std.specs.Int.{byte_at, bytes_low_first}
use Rattle.std.proofs.lemmas.Nat.{mod_below, shr_le, or_of_32, xor_of_32}
use Rattle.std.specs.Int.Bits.{and_le_l}
use Rattle.br_word.specs.declared.types.Width.{Width}
use Rattle.br_word.specs.declared.types.Width.TheVariants.{B8, B16, B32}
use Rattle.br_word.specs.Words.{bit, wrap, size_of}
use Rattle.br_word.specs.Memory.{Region, Reads, Writes, load, store, bytes_at, written, number_of, bytes_of, put_over, covers, allows}
use Rattle.ssa_form.specs.declared.form.BinOp.{BinOp}
use Rattle.ssa_form.specs.declared.form.BinOp.TheVariants.{Add, Sub, And, Or, Xor, Mul, MulOver, Shl, Shr, Sar, Eq, Ult}
use Rattle.ssa_form.specs.declared.form.OneOp.{OneOp}
use Rattle.ssa_form.specs.declared.form.OneOp.TheVariants.{Parity, Sext8, Sext16}
use Rattle.ssa_form.specs.Value.{bin_value, one_value, select_value, loaded, stored}
use Rattle.pass_copy.proofs.Bytes.{AllSmall, HoldsBytes}

wrap_below : (m : ℕ) (z : ℤ) → 0 < m → wrap m z < m
wrap_below m (pos n) p = mod_below n m p
wrap_below m (negsuc n) p = omega arith

bit_fits : (b : Bool) → bit b < 2 ^ 32
bit_fits true = omega arith
bit_fits false = omega arith

pub bin_fits : (o : BinOp) (a b : ℕ) → a < 2 ^ 32 → b < 2 ^ 32 → bin_value o a b < 2 ^ 32
bin_fits Add a b h g = mod_below _ _ (omega arith)
bin_fits Sub a b h g = mod_below _ _ (omega arith)
bin_fits And a b h g = let l = and_le_l a b in omega arith
bin_fits Or a b h g = or_of_32 a b h g
bin_fits Xor a b h g = xor_of_32 a b h g
bin_fits Mul a b h g = mod_below _ _ (omega arith)
bin_fits MulOver a b h g = bit_fits _
bin_fits Shl a b h g = mod_below _ _ (omega arith)
bin_fits Shr a b h g = let l = shr_le a (b % 32) in omega arith
bin_fits Sar a b h g = wrap_below (2 ^ 32) _ (omega arith)
bin_fits Eq a b h g = bit_fits _
bin_fits Ult a b h g = bit_fits _

pub one_fits : (o : OneOp) (a : ℕ) → one_value o a < 2 ^ 32
one_fits Parity a = bit_fits _
one_fits Sext8 a = wrap_below (2 ^ 32) _ (omega arith)
one_fits Sext16 a = wrap_below (2 ^ 32) _ (omega arith)

pub select_fits : (c a b : ℕ) → a < 2 ^ 32 → b < 2 ^ 32 → select_value c a b < 2 ^ 32
select_fits c a b h g = go (c == 0)
  where
    go : (t : Bool) → cond t b a < 2 ^ 32
    go true = g
    go false = h

-- ---- memory
drop_small : (k : ℕ) (bs : List ℕ) → AllSmall bs → AllSmall (drop k bs)
drop_small zero bs h = h
drop_small (suc k) [] h = tt
drop_small (suc k) (b ∷ bs) h = drop_small k bs h.1

take_small : (k : ℕ) (bs : List ℕ) → AllSmall bs → AllSmall (take k bs)
take_small zero bs h = tt
take_small (suc k) [] h = tt
take_small (suc k) (b ∷ bs) h = (h.0, take_small k bs h.1)

append_small : (xs ys : List ℕ) → AllSmall xs → AllSmall ys → AllSmall (xs ++ ys)
append_small [] ys h g = g
append_small (x ∷ xs) ys h g = (h.0, append_small xs ys h.1 g)

found_small : (b : Bool) (x : List ℕ) (o : Option (List ℕ)) (bs : List ℕ) → AllSmall x → (o ≡ Some bs → AllSmall bs) → (if b then Some x else o) ≡ Some bs → AllSmall bs
found_small true x o bs h g q = let e : x ≡ bs = cc in subst AllSmall e h
found_small false x o bs h g q = g q

bytes_small : (at n : ℕ) (rs : List Region) (bs : List ℕ) → HoldsBytes rs → bytes_at Reads at n rs ≡ Some bs → AllSmall bs
unfolding bytes_at
bytes_small at n [] bs h q = absurd (cc)
bytes_small at n (r ∷ rs) bs h q = found_small (covers r at n && allows Reads r.perms) _ _ bs (drop_small (at - r.start) r.bytes h.0) (bytes_small at n rs bs h.1) q

power_pos : (n : ℕ) → 0 < 256 ^ n
power_pos zero = omega arith
power_pos (suc n) = let e : 256 ^ suc n ≡ 256 ^ n * 256 = pow-suc 256 n in let p = power_pos n in omega arith

number_below : (n : ℕ) (bs : List ℕ) → AllSmall bs → number_of (take n bs) < 256 ^ n
unfolding number_of
number_below zero bs h = omega arith
number_below (suc n) [] h = let e : 256 ^ suc n ≡ 256 ^ n * 256 = pow-suc 256 n in let p = power_pos n in omega arith
number_below (suc n) (b ∷ bs) h =
    let e : 256 ^ suc n ≡ 256 ^ n * 256 = pow-suc 256 n in
    let l : b < 256 = h.0 in
    let p = number_below n bs h.1 in omega arith

in_width : (w : Width) (x : ℕ) → x < 256 ^ size_of w → x < 2 ^ 32
in_width B8 x h = omega arith
in_width B16 x h = omega arith
in_width B32 x h = omega arith

pub load_fits : (w : Width) (at : ℕ) (rs : List Region) → HoldsBytes rs → loaded (load at (size_of w) rs) < 2 ^ 32
load_fits w at rs h = in_width w _ (go (bytes_at Reads at (size_of w) rs) (λ bs. bytes_small at (size_of w) rs bs h))
  where
    go : (o : Option (List ℕ)) → ((bs : List ℕ) → o ≡ Some bs → AllSmall bs) → loaded (option_map (λ bs. number_of (take (size_of w) bs)) o) < 256 ^ size_of w
    go None g = power_pos (size_of w)
    go (Some bs) g = number_below (size_of w) bs (g bs refl)

from_small : (i n v : ℕ) → AllSmall (bytes_low_first i n v)
from_small i zero v = tt
from_small i (suc n) v = (one i, from_small (suc i) n v)
  where
    one : (i : ℕ) → byte_at i v < 256
    one zero = mod_below _ _ (omega arith)
    one (suc i) = mod_below _ _ (omega arith)

bytes_of_small : (n v : ℕ) → AllSmall (bytes_of n v)
unfolding bytes_of
bytes_of_small n v = from_small 0 n v

-- a store, allowed or refused
abbrev Holding : Option (List Region) → Type 0
Holding None = Unit {0}
Holding (Some ms) = HoldsBytes ms

put_small : (b : Bool) (r : Region) (new : List ℕ) (k : ℕ) (rs : List Region) (o : Option (List Region)) → AllSmall r.bytes → AllSmall new → HoldsBytes rs → Holding o → Holding (if b then Some (record r { bytes = put_over r.bytes k new } ∷ rs) else option_map (λ rest. r ∷ rest) o)
put_small true r new k rs o h g m q = (append_small _ _ (take_small k r.bytes h) (append_small new _ g (drop_small (k + length new) r.bytes h)), m)
put_small false r new k rs None h g m q = tt
put_small false r new k rs (Some ms) h g m q = (h, q)

written_small : (at : ℕ) (new : List ℕ) (rs : List Region) → AllSmall new → HoldsBytes rs → Holding (written at new rs)
unfolding written
written_small at new [] g h = tt
written_small at new (r ∷ rs) g h = put_small (covers r at (length new) && allows Writes r.perms) r new (at - r.start) rs (written at new rs) h.0 g h.1 (written_small at new rs g h.1)

pub store_small : (at n v : ℕ) (rs : List Region) → HoldsBytes rs → HoldsBytes (stored rs (store at n v rs))
store_small at n v rs h = go (store at n v rs) (written_small at (bytes_of n v) rs (bytes_of_small n v) h)
  where
    go : (o : Option (List Region)) → Holding o → HoldsBytes (stored rs o)
    go None q = h
    go (Some ms) q = q
