-- Code of lines, moves and exits has an encoding, each label once, and few items.
use Rattle.std.proofs.Common.{◌≡◌, ℕ, zero, suc, ◌+◌, ◌*◌, ◌^◌, ◌<◌, ◌≤◌, Bool, true, false, List, [], ◌∷◌, ◌++◌, length, map, get_or, Option, None, Some, refl, sym, ap, ◌∙◌, subst, arith, length-append}
use Rattle.std.specs.Prelude.{nat_lt, nat_eq, All, slice_get}
use Rattle.std.proofs.lemmas.List.{length-map}
use Rattle.std.proofs.lemmas.Bool.{lt-ltb, and_from}
use Rattle.br_word.specs.declared.types.Width.{Width}
use Rattle.br_word.specs.declared.types.Width.TheVariants.{B8, B16, B32}
use Rattle.ia_inst.specs.declared.inst.Inst.{Inst}
use Rattle.ia_inst.specs.declared.inst.Inst.TheVariants.{JmpRm}
use Rattle.ia_inst.specs.Canonical.{move_valid}
use Rattle.ia_inst.specs.declared.inst.Rm.TheVariants as rm
use Rattle.ia_inst.specs.declared.inst.Src.TheVariants as src
use Rattle.par_moves.specs.declared.locations.Place.{Place}
use Rattle.par_moves.specs.declared.locations.Place.TheVariants.{Reg, Slot}
use Rattle.par_moves.specs.declared.locations.MoveSource.{MoveSource as Source}
use Rattle.par_moves.specs.declared.locations.MoveSource.TheVariants.{Place as Held, Num}
use Rattle.par_moves.specs.declared.locations.PlaceMove.{PlaceMove}
use Rattle.par_moves.specs.Locations.{rm_of, src_of, slot_at, InRange, IsFit}
use Rattle.par_moves.specs.Homes.{home_of, register_homes}
use Rattle.ssa_form.specs.declared.form.TheConstants.{REGISTERS}
use Rattle.ssa_form.specs.declared.form.Line.{Line}
use Rattle.ssa_form.specs.declared.form.Line.TheVariants.{Bin, One, Select, Load, Store, Gone}
use Rattle.ssa_form.specs.declared.form.Val.{Val}
use Rattle.ssa_form.specs.declared.form.Val.TheVariants as val
use Rattle.ssa_form.specs.declared.form.BinOp.{BinOp}
use Rattle.ssa_form.specs.declared.form.BinOp.TheVariants.{Add, Sub, And, Or, Xor, Mul, MulOver, Shl, Shr, Sar, Eq, Ult}
use Rattle.ssa_form.specs.declared.form.OneOp.{OneOp}
use Rattle.ssa_form.specs.declared.form.OneOp.TheVariants.{Parity, Sext8, Sext16}
use Rattle.emit_ops.specs.Templates.{bin_code, one_code, load_code, store_code, move_code, held_by, line_code}
use Rattle.emit_ops.specs.Sequences.{kept, lines_code, moves_code}
use Rattle.emit_ops.specs.Placed.{place_or, place_at, IsPlace, HasPlace, IsHeld, AreHeld}
use Rattle.ia_encode.specs.declared.item.Dest.{Dest}
use Rattle.ia_encode.specs.declared.item.Item.{Item}
use Rattle.ia_encode.specs.declared.item.Item.TheVariants.{Inst as Put, Byte, Jump, Label}
use Rattle.ia_encode.specs.Items.{Lacks, AreDistinct, AreValid}
use Rattle.fall_stubs.specs.Exchange.{capture_code, spill_code, restore_rest, restore_items, opening_items, closing_items, island_items}
use Rattle.reg_place.specs.Laws.{HomesLie}
use Rattle.block_make.proofs.Sequence.{AllFit}

abbrev pub AllValid : List Inst → Type 0
AllValid [] = Unit {0}
AllValid (i ∷ is) = (Rattle.ia_inst.specs.Canonical.valid_of i ≡ true) × AllValid is

-- ---- templates

slot_valid : (k : ℕ) → k < 16384 → nat_lt (slot_at k) (2 ^ 32) ≡ true
slot_valid k h = lt-ltb (slot_at k) (2 ^ 32) (omega arith)

-- into a register
pub into : (r : ℕ) (x : Source) → r < 8 → IsFit x → move_valid B32 (rm.Reg r) (src_of x) ≡ true
into r (Held (Reg q)) h f = and_from (nat_lt r 8) (nat_lt q 8) (lt-ltb r 8 h) (lt-ltb q 8 f)
into r (Held (Slot k)) h f = and_from (nat_lt r 8) (nat_lt (slot_at k) (2 ^ 32)) (lt-ltb r 8 h) (slot_valid k f)
into r (Num n) h f = and_from (nat_lt r 8) (nat_lt n (2 ^ 32)) (lt-ltb r 8 h) (lt-ltb n (2 ^ 32) f)

eax_into : (x : Source) → IsFit x → move_valid B32 (rm.Reg 0) (src_of x) ≡ true
eax_into x f = into 0 x (omega arith) f

ecx_into : (x : Source) → IsFit x → move_valid B32 (rm.Reg 1) (src_of x) ≡ true
ecx_into x f = into 1 x (omega arith) f

-- from a register
out_of : (p : Place) (q : ℕ) → InRange p → q < 8 → move_valid B32 (rm_of p) (src.Rm (rm.Reg q)) ≡ true
out_of (Reg r) q h f = and_from (nat_lt r 8) (nat_lt q 8) (lt-ltb r 8 h) (lt-ltb q 8 f)
out_of (Slot k) q h f = and_from (nat_lt (slot_at k) (2 ^ 32)) (nat_lt q 8) (slot_valid k h) (lt-ltb q 8 f)

keeps : (p : Place) → InRange p → move_valid B32 (rm_of p) (src.Rm (rm.Reg 0)) ≡ true
keeps p h = out_of p 0 h (omega arith)

bin_valid : (op : BinOp) (x y : Source) (r : Place) → IsFit x → IsFit y → InRange r → AllValid (bin_code op x y r)
bin_valid Add x y r f g h = (eax_into x f, (eax_into y g, (keeps r h, tt)))
bin_valid Sub x y r f g h = (eax_into x f, (eax_into y g, (keeps r h, tt)))
bin_valid And x y r f g h = (eax_into x f, (eax_into y g, (keeps r h, tt)))
bin_valid Or x y r f g h = (eax_into x f, (eax_into y g, (keeps r h, tt)))
bin_valid Xor x y r f g h = (eax_into x f, (eax_into y g, (keeps r h, tt)))
bin_valid Mul x y r f g h = (eax_into x f, (ecx_into y g, (refl, (keeps r h, tt))))
bin_valid MulOver x y r f g h = (eax_into x f, (ecx_into y g, (refl, (refl, (refl, (keeps r h, tt))))))
bin_valid Shl x y r f g h = (eax_into x f, (ecx_into y g, (refl, (keeps r h, tt))))
bin_valid Shr x y r f g h = (eax_into x f, (ecx_into y g, (refl, (keeps r h, tt))))
bin_valid Sar x y r f g h = (eax_into x f, (ecx_into y g, (refl, (keeps r h, tt))))
bin_valid Eq x y r f g h = (eax_into x f, (eax_into y g, (refl, (refl, (keeps r h, tt)))))
bin_valid Ult x y r f g h = (eax_into x f, (eax_into y g, (refl, (refl, (keeps r h, tt)))))

one_valid : (op : OneOp) (x : Source) (r : Place) → IsFit x → InRange r → AllValid (one_code op x r)
one_valid Parity x r f h = (eax_into x f, (refl, (refl, (refl, (keeps r h, tt)))))
one_valid Sext8 x r f h = (eax_into x f, (refl, (keeps r h, tt)))
one_valid Sext16 x r f h = (eax_into x f, (refl, (keeps r h, tt)))

load_valid : (w : Width) (x : Source) (r : Place) → IsFit x → InRange r → AllValid (load_code w x r)
load_valid B8 x r f h = (eax_into x f, (refl, (keeps r h, tt)))
load_valid B16 x r f h = (eax_into x f, (refl, (keeps r h, tt)))
load_valid B32 x r f h = (eax_into x f, (refl, (keeps r h, tt)))

store_valid : (w : Width) (x y : Source) → IsFit x → IsFit y → AllValid (store_code w x y)
store_valid B8 x y f g = (eax_into x f, (ecx_into y g, (refl, tt)))
store_valid B16 x y f g = (eax_into x f, (ecx_into y g, (refl, tt)))
store_valid B32 x y f g = (eax_into x f, (ecx_into y g, (refl, tt)))

place_fits : (o : Option (Option Place)) → IsPlace o → InRange (place_or o)
place_fits None h = absurd h
place_fits (Some None) h = absurd h
place_fits (Some (Some p)) h = h.0

module _ (homes : HomesLie) where
  fits : (places : List (Option Place)) (v : Val) → IsHeld places v → IsFit (held_by home_of (place_at places) v)
  fits places (val.Param v) h = homes.fit v h
  fits places (val.Line j) h = place_fits (slice_get places j) h
  fits places (val.Num n) h = h

  line_valid : (places : List (Option Place)) (i : ℕ) (l : Line) → AreHeld places i l → AllValid (line_code home_of (place_at places) i l)
  line_valid places i (Bin op x y) h = bin_valid op (held_by home_of (place_at places) x) (held_by home_of (place_at places) y) (place_at places i) (fits places x h.0) (fits places y h.1) (place_fits (slice_get places i) h.2)
  line_valid places i (One op x) h = one_valid op (held_by home_of (place_at places) x) (place_at places i) (fits places x h.0) (place_fits (slice_get places i) h.1)
  line_valid places i (Select c x y) h = (eax_into (held_by home_of (place_at places) c) (fits places c h.0), (refl, (eax_into (held_by home_of (place_at places) y) (fits places y h.2), (ecx_into (held_by home_of (place_at places) x) (fits places x h.1), (refl, (keeps (place_at places i) (place_fits (slice_get places i) h.3), tt))))))
  line_valid places i (Load w at) h = load_valid w (held_by home_of (place_at places) at) (place_at places i) (fits places at h.0) (place_fits (slice_get places i) h.1)
  line_valid places i (Store w at x) h = store_valid w (held_by home_of (place_at places) at) (held_by home_of (place_at places) x) (fits places at h.0) (fits places x h.1)
  line_valid places i Gone h = tt

move_is_valid : (p : Place) (x : Source) → InRange p → IsFit x → AllValid (move_code p x)
move_is_valid (Reg r) x h f = (into r x h f, tt)
move_is_valid (Slot k) (Num n) h f = (and_from (nat_lt (slot_at k) (2 ^ 32)) (nat_lt n (2 ^ 32)) (slot_valid k h) (lt-ltb n (2 ^ 32) f), tt)
move_is_valid (Slot k) (Held (Reg r)) h f = (out_of (Slot k) r h f, tt)
move_is_valid (Slot k) (Held (Slot j)) h f = (eax_into (Held (Slot j)) f, (keeps (Slot k) h, tt))

-- ---- sequences of instructions

all_append : (is js : List Inst) → AllValid is → AllValid js → AllValid (is ++ js)
all_append [] js v w = w
all_append (i ∷ is) js v w = (v.0, all_append is js v.1 w)

pub moves_valid : (ms : List PlaceMove) → AllFit ms → AllValid (moves_code ms)
moves_valid [] h = tt
moves_valid (m ∷ ms) h = all_append (move_code m.to m.from) (moves_code ms) (move_is_valid m.to m.from h.0.0 h.0.1) (moves_valid ms h.1)

-- what is held of the lines of a set
abbrev pub RowsHeld : List (Option Place) → (ℕ → Bool) → List (ℕ × Line) → Type 0
RowsHeld places keep [] = Unit {0}
RowsHeld places keep (p ∷ ps) = (keep p.0 ≡ true → AreHeld places p.0 p.1) × RowsHeld places keep ps

pub lines_valid : HomesLie → (places : List (Option Place)) (keep : ℕ → Bool) (ps : List (ℕ × Line)) → RowsHeld places keep ps → AllValid (lines_code home_of (place_at places) (kept keep ps))
lines_valid homes places keep [] h = tt
lines_valid homes places keep (p ∷ ps) h = either (keep p.0) refl (lines_valid homes places keep ps h.1)
  where
    either : (b : Bool) → keep p.0 ≡ b → AllValid (lines_code home_of (place_at places) (kept keep ps)) → AllValid (lines_code home_of (place_at places) (Rattle.std.specs.Prelude.if◌then◌else◌ b (p ∷ kept keep ps) (kept keep ps)))
    either true e t = all_append (line_code home_of (place_at places) p.0 p.1) (lines_code home_of (place_at places) (kept keep ps)) (line_valid homes places p.0 p.1 (h.0 e)) t
    either false e t = t

-- ---- items

pub puts_valid : (is : List Inst) → AllValid is → AreValid (map Put is)
puts_valid [] v = tt
puts_valid (i ∷ is) v = (v.0, puts_valid is v.1)

pub bytes_valid : (bs : List ℕ) → AreValid (map Byte bs)
bytes_valid [] = tt
bytes_valid (b ∷ bs) = bytes_valid bs

pub valid_append : (is js : List Item) → AreValid is → AreValid js → AreValid (is ++ js)
valid_append [] js v w = w
valid_append (Put i ∷ is) js v w = (v.0, valid_append is js v.1 w)
valid_append (Byte b ∷ is) js v w = valid_append is js v w
valid_append (Jump cond d ∷ is) js v w = (v.0, valid_append is js v.1 w)
valid_append (Label l ∷ is) js v w = valid_append is js v w

capture_valid : AllValid (capture_code register_homes)
capture_valid = (refl, (refl, (refl, (refl, (refl, (refl, (refl, (refl, (refl, (refl, (refl, (refl, (refl, (refl, (refl, (refl, tt))))))))))))))))

rest_valid : AllValid restore_rest
rest_valid = (refl, (refl, (refl, (refl, (refl, (refl, (refl, (refl, (refl, (refl, (refl, (refl, (refl, (refl, (refl, (refl, (refl, (refl, (refl, (refl, (refl, (refl, (refl, tt)))))))))))))))))))))))

pub opening_valid : (label : ℕ) → AreValid (opening_items register_homes label)
opening_valid label = (refl, (refl, (refl, (refl, (refl, (refl, (omega arith, (refl, puts_valid restore_rest rest_valid))))))))

pub island_valid : (bytes : List ℕ) (label : ℕ) (next : Dest) → AreValid (island_items register_homes bytes label next)
island_valid bytes label next =
    valid_append (opening_items register_homes label) (map Byte bytes ++ closing_items register_homes next) (opening_valid label)
    (valid_append (map Byte bytes) (closing_items register_homes next) (bytes_valid bytes)
    (valid_append (map Put (capture_code register_homes)) (Jump None next ∷ []) (puts_valid (capture_code register_homes) capture_valid) (tt, tt)))

-- ---- labels

pub lack_append : (l : ℕ) (is js : List Item) → Lacks l is → Lacks l js → Lacks l (is ++ js)
lack_append l [] js v w = w
lack_append l (i ∷ is) js v w = (v.0, lack_append l is js v.1 w)

pub lack_puts : (l : ℕ) (is : List Inst) → Lacks l (map Put is)
lack_puts l [] = tt
lack_puts l (i ∷ is) = (refl, lack_puts l is)

lack_bytes : (l : ℕ) (bs : List ℕ) → Lacks l (map Byte bs)
lack_bytes l [] = tt
lack_bytes l (b ∷ bs) = (refl, lack_bytes l bs)

pub puts_distinct : (is : List Inst) (js : List Item) → AreDistinct js → AreDistinct (map Put is ++ js)
puts_distinct [] js w = w
puts_distinct (i ∷ is) js w = puts_distinct is js w

distinct_bytes : (bs : List ℕ) (js : List Item) → AreDistinct js → AreDistinct (map Byte bs ++ js)
distinct_bytes [] js w = w
distinct_bytes (b ∷ bs) js w = distinct_bytes bs js w

-- with one label at most
pub record HasOne (l : ℕ) (is : List Item) : Type 0 where
  pub distinct : AreDistinct is
  pub others : (k : ℕ) → nat_eq l k ≡ false → Lacks k is

-- behind items without the labels of the others
pub distinct_append : (is js : List Item) (l : ℕ) → HasOne l is → AreDistinct js → Lacks l js → AreDistinct (is ++ js)
distinct_append is js l h e free = go is h.distinct (λ k. h.others k)
  where
    same : (k : ℕ) → nat_eq k k ≡ true
    same k = Rattle.std.proofs.lemmas.Bool.eq-eqb k k refl

    either : (m : ℕ) (b : Bool) → nat_eq l m ≡ b → (nat_eq l m ≡ false → nat_eq m m ≡ false) → Lacks m js
    either m true q f = subst (λ (k : ℕ). Lacks k js) (Rattle.std.proofs.lemmas.Bool.eqb-true l m q) free
    either m false q f = absurd (Rattle.std.proofs.lemmas.Bool.true≢false (sym (same m) ∙ f q))

    go : (xs : List Item) → AreDistinct xs → ((k : ℕ) → nat_eq l k ≡ false → Lacks k xs) → AreDistinct (xs ++ js)
    go [] d o = e
    go (Put i ∷ xs) d o = go xs d (λ k n. (o k n).1)
    go (Byte b ∷ xs) d o = go xs d (λ k n. (o k n).1)
    go (Jump cond t ∷ xs) d o = go xs d (λ k n. (o k n).1)
    go (Label m ∷ xs) d o = (lack_append m xs js d.0 (either m (nat_eq l m) refl (λ n. (o m n).0)), go xs d.1 (λ k n. (o k n).1))

pub opening_one : (label : ℕ) → HasOne label (opening_items register_homes label)
opening_one label = record { distinct = (lack_puts label restore_rest, tt); others = λ k n. (refl, (refl, (refl, (refl, (refl, (refl, (refl, (refl, (n, lack_puts k restore_rest))))))))) }

pub island_distinct : (bytes : List ℕ) (label : ℕ) (next : Dest) → AreDistinct (island_items register_homes bytes label next)
island_distinct bytes label next =
    distinct_append (opening_items register_homes label) (map Byte bytes ++ closing_items register_homes next) label (opening_one label)
    (distinct_bytes bytes (closing_items register_homes next) (puts_distinct (capture_code register_homes) (Jump None next ∷ []) tt))
    (lack_append label (map Byte bytes) (closing_items register_homes next) (lack_bytes label bytes) (lack_append label (map Put (capture_code register_homes)) (Jump None next ∷ []) (lack_puts label (capture_code register_homes)) (refl, tt)))
