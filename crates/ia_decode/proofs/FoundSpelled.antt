-- What the step finds is what the table says.
use Rattle.std.proofs.Common.{◌≡◌, ℕ, ◌-◌, ◌<◌, ◌≤◌, Bool, true, false, List, [], ◌∷◌, ◌++◌, length, take, drop, Option, Some, None, refl, sym, ap, subst, ◌∙◌, arith}
use Rattle.std.specs.Prelude.{All, ◌&&◌, if◌then◌else◌}
use Rattle.std.proofs.lemmas.List.{take-append-drop, length-take-le}
use Rattle.std.proofs.lemmas.List.Elements.{All-head, All-tail, All-drop}
use Rattle.br_word.specs.Memory.{Region, Runs, covers, allows, bytes_at, HoldBytes, AreBytes}
use Rattle.br_word.specs.State.{State}
use Rattle.ia_inst.specs.declared.inst.Inst.{Inst}
use Rattle.ia_inst.specs.Spells.{Spells}
use Rattle.ia_inst.specs.Instructions.{decode_of}
use Rattle.ia_inst.specs.Step.{Found, NoCode, NoInst, There, found_from, found_in, found, step}
use Rattle.ia_inst.specs.Stands.{StandsFirst, StandsIn, Stands, step_at, StepsTo}
use Rattle.ia_decode.proofs.Readers.{IsBytes, none_is}
use Rattle.ia_decode.proofs.PrefixFree.{decode_again, decode_found, no_other}
use Rattle.ia_decode.proofs.DecodedInstruction.{bytes_each}

-- a front of bytes that is a spelling is read
read_front : (bytes : List ℕ) (n : ℕ) (i : Inst) → Spells (take n bytes) i → decode_of bytes ≡ Some (i, length (take n bytes))
read_front bytes n i s = ap decode_of (sym (take-append-drop n bytes)) ∙ decode_again (take n bytes) (drop n bytes) i s

-- what is read stands at the head of bytes
first_stands : (bytes : List ℕ) → AreBytes bytes → StandsFirst bytes (found_from (decode_of bytes))
first_stands bytes fits = go (decode_of bytes) refl
  where
    go : (o : Option (Inst × ℕ)) → decode_of bytes ≡ o → StandsFirst bytes (found_from o)
    go None e = λ n i s. none_is (i, length (take n bytes)) (sym e ∙ read_front bytes n i s)
    go (Some x) e = decode_found bytes x (bytes_each bytes fits) e

-- one thing stands at the head of bytes
one_first : (bytes : List ℕ) (f g : Found) → StandsFirst bytes f → StandsFirst bytes g → f ≡ g
one_first bytes NoCode g p q = absurd p
one_first bytes NoInst NoCode p q = absurd q
one_first bytes NoInst NoInst p q = refl
one_first bytes NoInst (There i n) p q = absurd (p n i q.1)
one_first bytes (There i n) NoCode p q = absurd q
one_first bytes (There i n) NoInst p q = absurd (q n i p.1)
one_first bytes (There i n) (There j m) p q =
    let e : take n bytes ++ drop n bytes ≡ take m bytes ++ drop m bytes = take-append-drop n bytes ∙ sym (take-append-drop m bytes) in
    let same = no_other (take n bytes) (take m bytes) (drop n bytes) (drop m bytes) i j p.1 q.1 e in
    let long : n ≡ m = sym (length-take-le n bytes p.0) ∙ ap length same.0 ∙ length-take-le m bytes q.0 in
    ap (λ (k : ℕ). There i k) long ∙ ap (λ (k : Inst). There k m) same.1

-- one thing stands at an address
pub one_stands : (at : ℕ) (rs : List Region) (f g : Found) → Stands at rs f → Stands at rs g → f ≡ g
one_stands at rs f g = go (bytes_at Runs at 1 rs) f g
  where
    go : (o : Option (List ℕ)) (f g : Found) → StandsIn o f → StandsIn o g → f ≡ g
    go (Some bytes) f g p q = one_first bytes f g p q
    go None NoCode NoCode p q = refl
    go None NoCode NoInst p q = absurd q
    go None NoCode (There i n) p q = absurd q
    go None NoInst g p q = absurd p
    go None (There i n) g p q = absurd p

-- ---- what the step finds

abbrev IsByte : ℕ → Type 0
IsByte b = b < 256

abbrev OfBytes : Region → Type 0
OfBytes r = AreBytes r.bytes

bytes_there : (at n : ℕ) (rs : List Region) (bs : List ℕ) → HoldBytes rs → bytes_at Runs at n rs ≡ Some bs → AreBytes bs
unfolding bytes_at
bytes_there at n [] bs h q = cc
bytes_there at n (r ∷ rs) bs h q = by_test (covers r at n && allows Runs r.perms) (λ e. bytes_there at n rs bs (All-tail OfBytes r rs h) e) q
  where
    by_test : (b : Bool) → (bytes_at Runs at n rs ≡ Some bs → AreBytes bs) → (if b then Some (drop (at - r.start) r.bytes) else bytes_at Runs at n rs) ≡ Some bs → AreBytes bs
    by_test true k e = let same : drop (at - r.start) r.bytes ≡ bs = cc in subst AreBytes same (All-drop IsByte (at - r.start) r.bytes (All-head OfBytes r rs h))
    by_test false k e = k e

-- it stands there
pub found_stands : (at : ℕ) (rs : List Region) → HoldBytes rs → Stands at rs (found at rs)
found_stands at rs h = go (bytes_at Runs at 1 rs) refl
  where
    go : (o : Option (List ℕ)) → bytes_at Runs at 1 rs ≡ o → StandsIn o (found_in o)
    go None e = tt
    go (Some bytes) e = first_stands bytes (bytes_there at 1 rs bytes h e)

-- and nothing else does
pub only_found : (at : ℕ) (rs : List Region) (f : Found) → HoldBytes rs → Stands at rs f → found at rs ≡ f
only_found at rs f h s = one_stands at rs (found at rs) f (found_stands at rs h) s

-- the step is one by the table
pub step_stands : (s : State) (c : ℕ) → HoldBytes s.regions → StepsTo s c (step s c)
unfolding step
step_stands s c h = record { there = found s.eip s.regions; stands = found_stands s.eip s.regions h; to = refl }

-- and the only one
pub only_step : (s t : State) (c : ℕ) → HoldBytes s.regions → StepsTo s c t → step s c ≡ t
unfolding step
only_step s t c h w = ap (λ (f : Found). step_at f s c) (only_found s.eip s.regions w.there h w.stands) ∙ sym w.to
