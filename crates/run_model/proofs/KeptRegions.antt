-- Regions of bytes stay so, and code stays, where memory is written and the break moves.
use Rattle.std.proofs.Common.{◌≡◌, ◌≢◌, ℕ, zero, suc, ◌+◌, ◌-◌, ◌*◌, ◌/◌, ◌^◌, ◌<◌, Bool, true, false, ◌&&◌, List, [], ◌∷◌, ◌++◌, length, take, drop, map, get_or, All, Option, Some, None, refl, sym, ap, ◌∙◌, subst, arith, pow-suc}
use Rattle.std.specs.Prelude.{option_map, nat_eq, if◌then◌else◌}
use Rattle.std.specs.Int.{byte_at, bytes_low_first}
use Rattle.std.proofs.lemmas.Nat.{mod_below}
use Rattle.std.proofs.lemmas.Bool.{and_parts, eqb-true}
use Rattle.std.proofs.lemmas.List.Elements.{All-nil, All-cons, All-head, All-tail, All-append, All-weaker, All-take, All-drop, All-replicate}
use Rattle.br_word.specs.Memory.{Region, Use, Reads, Runs, allows, covers, bytes_at, put_over, written, number_of, bytes_of, zeros, load, resized, AreBytes, HoldBytes}
use Rattle.run_model.specs.Sound.{IsApart}

-- ---- bytes

abbrev pub IsByte : ℕ → Type 0
IsByte b = b < 256

pub each_below : (m : ℕ) (xs : List ℕ) → 0 < m → All (λ x. x < m) xs → (i : ℕ) → get_or xs i 0 < m
each_below m [] p h i = p
each_below m (x ∷ xs) p h zero = All-head (λ x. x < m) x xs h
each_below m (x ∷ xs) p h (suc i) = each_below m xs p (All-tail (λ x. x < m) x xs h) i

number_small : (n : ℕ) (bs : List ℕ) → AreBytes bs → number_of (take n bs) < 256 ^ n
unfolding number_of
number_small zero bs h = omega arith
number_small (suc n) [] h = let e : 256 ^ suc n ≡ 256 ^ n * 256 = pow-suc 256 n in let p : 0 < 256 ^ n = power n in omega arith
  where
    power : (n : ℕ) → 0 < 256 ^ n
    power zero = omega arith
    power (suc n) = let e : 256 ^ suc n ≡ 256 ^ n * 256 = pow-suc 256 n in let p = power n in omega arith
number_small (suc n) (b ∷ bs) h = let e : 256 ^ suc n ≡ 256 ^ n * 256 = pow-suc 256 n in let r = number_small n bs (All-tail IsByte b bs h) in let l = All-head IsByte b bs h in omega arith

byte_small : (i v : ℕ) → byte_at i v < 256
byte_small zero v = mod_below v 256 (omega arith)
byte_small (suc i) v = mod_below (v / 256 ^ suc i) 256 (omega arith)

low_first : (i n v : ℕ) → AreBytes (bytes_low_first i n v)
low_first i zero v = All-nil IsByte
low_first i (suc n) v = All-cons IsByte _ _ (byte_small i v) (low_first (suc i) n v)

pub word_bytes : (n v : ℕ) → AreBytes (bytes_of n v)
unfolding bytes_of
word_bytes n v = low_first 0 n v

pub zero_bytes : (n : ℕ) → AreBytes (zeros n)
unfolding zeros
zero_bytes n = All-replicate IsByte n 0 (omega arith)

pub both : (xs ys : List ℕ) → AreBytes xs → AreBytes ys → AreBytes (xs ++ ys)
both xs ys h k = All-append IsByte xs ys h k

pub first_bytes : (n : ℕ) (xs : List ℕ) → AreBytes xs → AreBytes (take n xs)
first_bytes n xs h = All-take IsByte n xs h

pub last_bytes : (n : ℕ) (xs : List ℕ) → AreBytes xs → AreBytes (drop n xs)
last_bytes n xs h = All-drop IsByte n xs h

-- ---- what is read

abbrev OfBytes : Region → Type 0
OfBytes r = AreBytes r.bytes

pub bytes_read : (how : Use) (at n : ℕ) (rs : List Region) (bs : List ℕ) → HoldBytes rs → bytes_at how at n rs ≡ Some bs → AreBytes bs
unfolding bytes_at
bytes_read how at n [] bs h e = cc
bytes_read how at n (r ∷ rs) bs h e = go (covers r at n && allows how r.perms) (All-head OfBytes r rs h) (bytes_read how at n rs bs (All-tail OfBytes r rs h)) e
  where
    go : (t : Bool) → OfBytes r → (bytes_at how at n rs ≡ Some bs → AreBytes bs) → (if t then Some (drop (at - r.start) r.bytes) else bytes_at how at n rs) ≡ Some bs → AreBytes bs
    go true k f e = let is : drop (at - r.start) r.bytes ≡ bs = cc in subst AreBytes is (last_bytes (at - r.start) r.bytes k)
    go false k f e = f e

pub load_small : (at n : ℕ) (rs : List Region) (v : ℕ) → HoldBytes rs → load at n rs ≡ Some v → v < 256 ^ n
load_small at n rs v h e = go (bytes_at Reads at n rs) refl e
  where
    go : (o : Option (List ℕ)) → bytes_at Reads at n rs ≡ o → option_map (λ bs. number_of (take n bs)) o ≡ Some v → v < 256 ^ n
    go None f e = cc
    go (Some bs) f e = let is : number_of (take n bs) ≡ v = cc in subst (λ v. v < 256 ^ n) is (number_small n bs (bytes_read Reads at n rs bs h f))

put_bytes : (old new : List ℕ) (at : ℕ) → AreBytes old → AreBytes new → AreBytes (put_over old at new)
put_bytes old new at h l = both (take at old) _ (first_bytes at old h) (both new _ l (last_bytes (at + length new) old h))

pub written_bytes : (at : ℕ) (new : List ℕ) (rs ss : List Region) → AreBytes new → HoldBytes rs → written at new rs ≡ Some ss → HoldBytes ss
unfolding written
written_bytes at new [] ss l h e = cc
written_bytes at new (r ∷ rs) ss l h e =
    let rest = All-tail OfBytes r rs h in
    go (covers r at (length new) && r.perms.write) (written at new rs) (All-head OfBytes r rs h) rest refl e (λ ts w. written_bytes at new rs ts l rest w)
  where
    go : (t : Bool) (o : Option (List Region)) → OfBytes r → HoldBytes rs → written at new rs ≡ o
        → (if t then Some (record r { bytes = put_over r.bytes (at - r.start) new } ∷ rs) else option_map (λ rest. r ∷ rest) o) ≡ Some ss → ((ts : List Region) → written at new rs ≡ Some ts → HoldBytes ts) → HoldBytes ss
    go true o k rest w e f =
        let is : record r { bytes = put_over r.bytes (at - r.start) new } ∷ rs ≡ ss = cc in
        subst HoldBytes is (All-cons OfBytes _ rs (put_bytes r.bytes new (at - r.start) k l) rest)
    go false None k rest w e f = cc
    go false (Some ts) k rest w e f = let is : r ∷ ts ≡ ss = cc in subst HoldBytes is (All-cons OfBytes r ts k (f ts w))

-- ---- code is not looked for in a region that is not executed

skipped : (a : ℕ) (r : Region) (rs : List Region) → r.perms.exec ≡ false → bytes_at Runs a 1 (r ∷ rs) ≡ bytes_at Runs a 1 rs
unfolding bytes_at
skipped a r rs e =
    ap (λ b. if b then Some (drop (a - r.start) r.bytes) else bytes_at Runs a 1 rs) (ap (λ x. covers r a 1 && x) e ∙ never (covers r a 1))
  where
    never : (b : Bool) → (b && false) ≡ false
    never true = refl
    never false = refl

same_tail : (a : ℕ) (r : Region) (rs ss : List Region) → bytes_at Runs a 1 ss ≡ bytes_at Runs a 1 rs → bytes_at Runs a 1 (r ∷ ss) ≡ bytes_at Runs a 1 (r ∷ rs)
unfolding bytes_at
same_tail a r rs ss e = ap (λ o. if covers r a 1 && r.perms.exec then Some (drop (a - r.start) r.bytes) else o) e

-- both at once
pub record IsRegion (brk_start : ℕ) (r : Region) : Type 0 where
  pub bytes : AreBytes r.bytes
  pub code : IsApart brk_start r

-- the regions are sound, and have the code of the first ones
pub record Kept (brk_start : ℕ) (first rs : List Region) : Type 0 where
  pub regions : All (IsRegion brk_start) rs
  pub code : (a : ℕ) → bytes_at Runs a 1 rs ≡ bytes_at Runs a 1 first

module _ (b : ℕ) where
  not_run : (e w : Bool) (P : Type 0) → (e ≡ true → (w ≡ false) × P) → w ≡ true → e ≡ false
  not_run true w P f h = cc (f refl).0
  not_run false w P f h = refl

  not_heap : (e w : Bool) (P : Type 0) → (e ≡ true → (w ≡ false) × (P → ⊥)) → P → e ≡ false
  not_heap true w P f h = absurd ((f refl).1 h)
  not_heap false w P f h = refl

  pub kept_all : (rs : List Region) → All (IsRegion b) rs → Kept b rs rs
  kept_all rs h = record { regions = h; code = λ a. refl }

  pub kept_on : (first rs ss : List Region) → Kept b first rs → Kept b rs ss → Kept b first ss
  kept_on first rs ss k l = record { regions = l.regions; code = λ a. l.code a ∙ k.code a }

  -- another region before the same
  under : (r : Region) (rs ss : List Region) → IsRegion b r → Kept b rs ss → Kept b (r ∷ rs) (r ∷ ss)
  under r rs ss h k = record { regions = All-cons (IsRegion b) r ss h k.regions; code = λ a. same_tail a r rs ss (k.code a) }

  -- a region that is not executed has other bytes
  over : (r : Region) (bytes : List ℕ) (rs ss : List Region) → IsRegion b r → r.perms.exec ≡ false → AreBytes bytes → Kept b rs ss → Kept b (r ∷ rs) (record r { bytes = bytes } ∷ ss)
  over r bytes rs ss h e l k = record {
    regions = All-cons (IsRegion b) _ ss (record { bytes = l; code = h.code }) k.regions;
    code = λ a. skipped a (record r { bytes = bytes }) ss e ∙ k.code a ∙ sym (skipped a r rs e);
  }

  pub together : (rs : List Region) → HoldBytes rs → All (IsApart b) rs → All (IsRegion b) rs
  together [] h k = All-nil (IsRegion b)
  together (r ∷ rs) h k = All-cons (IsRegion b) r rs (record { bytes = All-head OfBytes r rs h; code = All-head (IsApart b) r rs k }) (together rs (All-tail OfBytes r rs h) (All-tail (IsApart b) r rs k))

  pub their_bytes : (rs : List Region) → All (IsRegion b) rs → HoldBytes rs
  their_bytes rs h = All-weaker (IsRegion b) OfBytes (λ r k. k.bytes) rs h

  pub their_code : (rs : List Region) → All (IsRegion b) rs → All (IsApart b) rs
  their_code rs h = All-weaker (IsRegion b) (IsApart b) (λ r k. k.code) rs h

  pub written_kept : (at : ℕ) (new : List ℕ) (rs ss : List Region) → AreBytes new → All (IsRegion b) rs → written at new rs ≡ Some ss → Kept b rs ss
  unfolding written
  written_kept at new [] ss l h e = cc
  written_kept at new (r ∷ rs) ss l h e =
      let rest = All-tail (IsRegion b) r rs h in
      go (covers r at (length new) && r.perms.write) (written at new rs) (All-head (IsRegion b) r rs h) rest refl refl e (λ ts w. written_kept at new rs ts l rest w)
    where
      go : (t : Bool) (o : Option (List Region)) → IsRegion b r → All (IsRegion b) rs → (covers r at (length new) && r.perms.write) ≡ t → written at new rs ≡ o
          → (if t then Some (record r { bytes = put_over r.bytes (at - r.start) new } ∷ rs) else option_map (λ rest. r ∷ rest) o) ≡ Some ss → ((ts : List Region) → written at new rs ≡ Some ts → Kept b rs ts) → Kept b (r ∷ rs) ss
      go true o k rest t w e f =
          let is : record r { bytes = put_over r.bytes (at - r.start) new } ∷ rs ≡ ss = cc in
          let x = not_run r.perms.exec r.perms.write (r.start ≢ b) k.code (and_parts (covers r at (length new)) r.perms.write t).1 in
          let put = put_bytes r.bytes new (at - r.start) k.bytes l in
          subst (Kept b (r ∷ rs)) is (over r _ rs rs k x put (kept_all rs rest))
      go false None k rest t w e f = cc
      go false (Some ts) k rest t w e f =
          let is : r ∷ ts ≡ ss = cc in
          subst (Kept b (r ∷ rs)) is (under r rs ts k (f ts w))

  pub resized_kept : (size : ℕ) (rs : List Region) → All (IsRegion b) rs → Kept b rs (map (resized b size) rs)
  resized_kept size [] h = kept_all [] h
  resized_kept size (r ∷ rs) h = go (nat_eq r.start b) (All-head (IsRegion b) r rs h) refl (resized_kept size rs (All-tail (IsRegion b) r rs h))
    where
      go : (t : Bool) → IsRegion b r → nat_eq r.start b ≡ t → Kept b rs (map (resized b size) rs) → Kept b (r ∷ rs) ((if t then record r { bytes = take size (r.bytes ++ zeros size) } else r) ∷ map (resized b size) rs)
      go true h e k =
          let x = not_heap r.perms.exec r.perms.write (r.start ≡ b) h.code (eqb-true r.start b e) in
          over r _ rs _ h x (first_bytes size _ (both r.bytes (zeros size) h.bytes (zero_bytes size))) k
      go false h e k = under r rs _ h k
