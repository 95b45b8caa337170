-- Code of lines, moves and sequences is valid.
use Rattle.std.proofs.Common.{◌≡◌, ℕ, ◌^◌, ◌<◌, true, nat_lt, List, [], ◌∷◌, ◌++◌, map, None, refl, arith, inl, inr}
use Rattle.std.proofs.lemmas.Bool.{lt-ltb, and_from}
use Rattle.br_word.specs.declared.types.Width.{Width}
use Rattle.br_word.specs.declared.types.Width.TheVariants.{B8, B16, B32}
use Rattle.ia_inst.specs.declared.inst.Inst.{Inst}
use Rattle.ia_inst.specs.Canonical.{move_valid}
use Rattle.ia_inst.specs.declared.inst.Rm.TheVariants as rm
use Rattle.ia_inst.specs.declared.inst.Src.TheVariants as src
use Rattle.par_moves.specs.declared.locations.Place.{Place}
use Rattle.par_moves.specs.declared.locations.Place.TheVariants.{Reg, Slot}
use Rattle.par_moves.specs.declared.locations.MoveSource.{MoveSource as Source}
use Rattle.par_moves.specs.declared.locations.MoveSource.TheVariants.{Place as Held}
use Rattle.par_moves.specs.Locations.{rm_of, src_of, slot_at, InRange, IsFit}
use Rattle.ssa_form.specs.declared.form.Line.{Line}
use Rattle.ssa_form.specs.declared.form.Line.TheVariants.{Bin, One, Select, Load, Store, Gone}
use Rattle.ssa_form.specs.declared.form.Val.{Val}
use Rattle.ssa_form.specs.declared.form.Val.TheVariants.{Param, Line as Named}
use Rattle.ssa_form.specs.declared.form.BinOp.{BinOp}
use Rattle.ssa_form.specs.declared.form.BinOp.TheVariants.{Add, Sub, And, Or, Xor, Mul, MulOver, Shl as ShiftLeft, Shr as ShiftRight, Sar as ShiftSigned, Eq, Ult}
use Rattle.ssa_form.specs.declared.form.OneOp.{OneOp}
use Rattle.ssa_form.specs.declared.form.OneOp.TheVariants.{Parity, Sext8, Sext16}
use Rattle.emit_ops.specs.Templates.{bin_code, one_code, load_code, store_code, move_code, held_by, line_code}
use Rattle.ia_encode.specs.declared.item.Dest.{Dest}
use Rattle.ia_encode.specs.declared.item.Item.{Item}
use Rattle.ia_encode.specs.declared.item.Item.TheVariants.{Inst as Put, Byte, Jump, Label}
use Rattle.ia_encode.specs.Items.{Lacks, AreDistinct, AreValid}
use Rattle.code_laws.specs.Exchange.{Homes}
use Rattle.par_moves.specs.Homes.{AreHomes, register_homes}
use Rattle.fall_stubs.specs.Exchange.{capture_code, spill_code, restore_rest, reg_from_slot, restore_items, opening_items, closing_items, island_items}
use Rattle.par_moves.specs.declared.locations.MoveSource.TheVariants as places
use Rattle.ssa_form.specs.declared.form.Val.TheVariants as lines
use Rattle.code_laws.specs.Placed.{IsVal, ValsOf, Laid}
use Rattle.code_laws.specs.Valid.{AllValid, CodeValid}
use Rattle.code_laws.proofs.Exchange.{home_register}

slot_valid : (k : ℕ) → k < 16384 → nat_lt (slot_at k) (2 ^ 32) ≡ true
slot_valid k h = lt-ltb (slot_at k) (2 ^ 32) (omega arith)

-- into a register
into : (r : ℕ) (x : Source) → r < 8 → IsFit x → move_valid B32 (rm.Reg r) (src_of x) ≡ true
into r (Held (Reg q)) h f = and_from (nat_lt r 8) (nat_lt q 8) (lt-ltb r 8 h) (lt-ltb q 8 f)
into r (Held (Slot k)) h f = and_from (nat_lt r 8) (nat_lt (slot_at k) (2 ^ 32)) (lt-ltb r 8 h) (slot_valid k f)
into r (places.Num n) h f = and_from (nat_lt r 8) (nat_lt n (2 ^ 32)) (lt-ltb r 8 h) (lt-ltb n (2 ^ 32) f)

eax_into : (x : Source) → IsFit x → move_valid B32 (rm.Reg 0) (src_of x) ≡ true
eax_into x f = into 0 x (omega arith) f

ecx_into : (x : Source) → IsFit x → move_valid B32 (rm.Reg 1) (src_of x) ≡ true
ecx_into x f = into 1 x (omega arith) f

-- from a register
out_of : (p : Place) (q : ℕ) → InRange p → q < 8 → move_valid B32 (rm_of p) (src.Rm (rm.Reg q)) ≡ true
out_of (Reg r) q h f = and_from (nat_lt r 8) (nat_lt q 8) (lt-ltb r 8 h) (lt-ltb q 8 f)
out_of (Slot k) q h f = and_from (nat_lt (slot_at k) (2 ^ 32)) (nat_lt q 8) (slot_valid k h) (lt-ltb q 8 f)

kept : (p : Place) → InRange p → move_valid B32 (rm_of p) (src.Rm (rm.Reg 0)) ≡ true
kept p h = out_of p 0 h (omega arith)

bin_valid : (op : BinOp) (x y : Source) (r : Place) → IsFit x → IsFit y → InRange r → AllValid (bin_code op x y r)
bin_valid Add x y r f g h = (eax_into x f, (eax_into y g, (kept r h, tt)))
bin_valid Sub x y r f g h = (eax_into x f, (eax_into y g, (kept r h, tt)))
bin_valid And x y r f g h = (eax_into x f, (eax_into y g, (kept r h, tt)))
bin_valid Or x y r f g h = (eax_into x f, (eax_into y g, (kept r h, tt)))
bin_valid Xor x y r f g h = (eax_into x f, (eax_into y g, (kept r h, tt)))
bin_valid Mul x y r f g h = (eax_into x f, (ecx_into y g, (refl, (kept r h, tt))))
bin_valid MulOver x y r f g h = (eax_into x f, (ecx_into y g, (refl, (refl, (refl, (kept r h, tt))))))
bin_valid ShiftLeft x y r f g h = (eax_into x f, (ecx_into y g, (refl, (kept r h, tt))))
bin_valid ShiftRight x y r f g h = (eax_into x f, (ecx_into y g, (refl, (kept r h, tt))))
bin_valid ShiftSigned x y r f g h = (eax_into x f, (ecx_into y g, (refl, (kept r h, tt))))
bin_valid Eq x y r f g h = (eax_into x f, (eax_into y g, (refl, (refl, (kept r h, tt)))))
bin_valid Ult x y r f g h = (eax_into x f, (eax_into y g, (refl, (refl, (kept r h, tt)))))

one_valid : (op : OneOp) (x : Source) (r : Place) → IsFit x → InRange r → AllValid (one_code op x r)
one_valid Parity x r f h = (eax_into x f, (refl, (refl, (refl, (kept r h, tt)))))
one_valid Sext8 x r f h = (eax_into x f, (refl, (kept r h, tt)))
one_valid Sext16 x r f h = (eax_into x f, (refl, (kept r h, tt)))

load_valid : (w : Width) (x : Source) (r : Place) → IsFit x → InRange r → AllValid (load_code w x r)
load_valid B8 x r f h = (eax_into x f, (refl, (kept r h, tt)))
load_valid B16 x r f h = (eax_into x f, (refl, (kept r h, tt)))
load_valid B32 x r f h = (eax_into x f, (refl, (kept r h, tt)))

store_valid : (w : Width) (x y : Source) → IsFit x → IsFit y → AllValid (store_code w x y)
store_valid B8 x y f g = (eax_into x f, (ecx_into y g, (refl, tt)))
store_valid B16 x y f g = (eax_into x f, (ecx_into y g, (refl, tt)))
store_valid B32 x y f g = (eax_into x f, (ecx_into y g, (refl, tt)))

module _ (limit : ℕ) (home place : ℕ → Place) (laid : Laid limit home place) where
  fit : (v : Val) → IsVal limit v → IsFit (held_by home place v)
  fit (Param v) i = laid.homes_fit v i
  fit (Named j) i = laid.places_fit j i
  fit (lines.Num n) i = i

  line_valid : (i : ℕ) (l : Line) → i < limit → ValsOf limit l → AllValid (line_code home place i l)
  line_valid i (Bin op x y) li v = bin_valid op (held_by home place x) (held_by home place y) (place i) (fit x v.0) (fit y v.1) (laid.places_fit i li)
  line_valid i (One op x) li v = one_valid op (held_by home place x) (place i) (fit x v) (laid.places_fit i li)
  line_valid i (Select c x y) li v = (eax_into (held_by home place c) (fit c v.0), (refl, (eax_into (held_by home place y) (fit y v.2), (ecx_into (held_by home place x) (fit x v.1), (refl, (kept (place i) (laid.places_fit i li), tt))))))
  line_valid i (Load w at) li v = load_valid w (held_by home place at) (place i) (fit at v) (laid.places_fit i li)
  line_valid i (Store w at x) li v = store_valid w (held_by home place at) (held_by home place x) (fit at v.0) (fit x v.1)
  line_valid i Gone li v = tt

move_is_valid : (p : Place) (x : Source) → InRange p → IsFit x → AllValid (move_code p x)
move_is_valid (Reg r) x h f = (into r x h f, tt)
move_is_valid (Slot k) (places.Num n) h f = (and_from (nat_lt (slot_at k) (2 ^ 32)) (nat_lt n (2 ^ 32)) (slot_valid k h) (lt-ltb n (2 ^ 32) f), tt)
move_is_valid (Slot k) (Held (Reg r)) h f = (out_of (Slot k) r h f, tt)
move_is_valid (Slot k) (Held (Slot j)) h f = (eax_into (Held (Slot j)) f, (kept (Slot k) h, tt))

-- ---- sequences

puts_valid : (is : List Inst) → AllValid is → AreValid (map Put is)
puts_valid [] v = tt
puts_valid (i ∷ is) v = (v.0, puts_valid is v.1)

bytes_valid : (bs : List ℕ) → AreValid (map Byte bs)
bytes_valid [] = tt
bytes_valid (b ∷ bs) = bytes_valid bs

valid_append : (is js : List Item) → AreValid is → AreValid js → AreValid (is ++ js)
valid_append [] js v w = w
valid_append (Put i ∷ is) js v w = (v.0, valid_append is js v.1 w)
valid_append (Byte b ∷ is) js v w = valid_append is js v w
valid_append (Jump cond d ∷ is) js v w = (v.0, valid_append is js v.1 w)
valid_append (Label l ∷ is) js v w = valid_append is js v w

fetch_valid : (homes : Homes) → AreHomes homes → AllValid (map (λ p. reg_from_slot p.register p.slot) homes)
fetch_valid [] h = tt
fetch_valid (p ∷ ps) h = (into p.register (Held (Slot p.slot)) (home_register p.register h.0) (omega (arith, h.1)), fetch_valid ps h.4)

spill_valid : (homes : Homes) → AreHomes homes → AllValid (spill_code homes)
spill_valid [] h = tt
spill_valid (p ∷ ps) h = (out_of (Slot p.slot) p.register (omega (arith, h.1)) (home_register p.register h.0), spill_valid ps h.4)

capture_valid : (homes : Homes) → AreHomes homes → AllValid (capture_code homes)
capture_valid homes h = (refl, (refl, (refl, (refl, (refl, (refl, (refl, (refl, (refl, (refl, (refl, (refl, (refl, fetch_valid homes h)))))))))))))

rest_valid : AllValid restore_rest
rest_valid = (refl, (refl, (refl, (refl, (refl, (refl, (refl, (refl, (refl, (refl, (refl, (refl, (refl, (refl, (refl, (refl, (refl, (refl, (refl, (refl, (refl, (refl, (refl, tt)))))))))))))))))))))))

restore_valid : (label : ℕ) → AreValid (restore_items label)
restore_valid label = (refl, (refl, (refl, (omega arith, (refl, puts_valid restore_rest rest_valid)))))

island_valid : (homes : Homes) → AreHomes homes → (bytes : List ℕ) (label : ℕ) (next : Dest) → AreValid (island_items homes bytes label next)
island_valid homes h bytes label next =
    valid_append (opening_items homes label) (map Byte bytes ++ closing_items homes next)
    (valid_append (map Put (spill_code homes)) (restore_items label) (puts_valid (spill_code homes) (spill_valid homes h)) (restore_valid label))
    (valid_append (map Byte bytes) (closing_items homes next) (bytes_valid bytes)
    (valid_append (map Put (capture_code homes)) (Jump None next ∷ []) (puts_valid (capture_code homes) (capture_valid homes h)) (tt, tt)))

lack_append : (l : ℕ) (is js : List Item) → Lacks l is → Lacks l js → Lacks l (is ++ js)
lack_append l [] js v w = w
lack_append l (i ∷ is) js v w = (v.0, lack_append l is js v.1 w)

lack_puts : (l : ℕ) (is : List Inst) → Lacks l (map Put is)
lack_puts l [] = tt
lack_puts l (i ∷ is) = (refl, lack_puts l is)

lack_bytes : (l : ℕ) (bs : List ℕ) → Lacks l (map Byte bs)
lack_bytes l [] = tt
lack_bytes l (b ∷ bs) = (refl, lack_bytes l bs)

puts_distinct : (is : List Inst) (js : List Item) → AreDistinct js → AreDistinct (map Put is ++ js)
puts_distinct [] js w = w
puts_distinct (i ∷ is) js w = puts_distinct is js w

-- items without labels behind others
distinct_append : (is js : List Item) → AreDistinct is → AreDistinct js → ((l : ℕ) → Lacks l js) → AreDistinct (is ++ js)
distinct_append [] js d e free = e
distinct_append (Put i ∷ is) js d e free = distinct_append is js d e free
distinct_append (Byte b ∷ is) js d e free = distinct_append is js d e free
distinct_append (Jump cond t ∷ is) js d e free = distinct_append is js d e free
distinct_append (Label l ∷ is) js d e free = (lack_append l is js d.0 (free l), distinct_append is js d.1 e free)

distinct_bytes : (bs : List ℕ) (js : List Item) → AreDistinct js → AreDistinct (map Byte bs ++ js)
distinct_bytes [] js w = w
distinct_bytes (b ∷ bs) js w = distinct_bytes bs js w

restore_distinct : (label : ℕ) → AreDistinct (restore_items label)
restore_distinct label = (lack_puts label restore_rest, tt)

island_distinct : (homes : Homes) (bytes : List ℕ) (label : ℕ) (next : Dest) → AreDistinct (island_items homes bytes label next)
island_distinct homes bytes label next =
    distinct_append (opening_items homes label) (map Byte bytes ++ closing_items homes next)
    (puts_distinct (spill_code homes) (restore_items label) (restore_distinct label))
    (distinct_bytes bytes (closing_items homes next) (puts_distinct (capture_code homes) (Jump None next ∷ []) tt))
    (λ l. lack_append l (map Byte bytes) (closing_items homes next) (lack_bytes l bytes) (lack_append l (map Put (capture_code homes)) (Jump None next ∷ []) (lack_puts l (capture_code homes)) (refl, tt)))

pub are_homes : AreHomes register_homes
are_homes =
    (inr (inl refl), omega arith, (refl, (refl, tt)), (refl, (refl, tt)), (inl refl, omega arith, (refl, tt), (refl, tt), (inr (inr refl), omega arith, tt, tt, tt)))

pub code_valid : CodeValid
code_valid = record {
  line = λ limit home place laid i l li v. line_valid limit home place laid i l li v;
  move = move_is_valid;
  island = island_valid;
  labels = island_distinct;
  homes = are_homes;
  capture_size = refl;
  spill_size = refl;
  restore_size = λ label. refl;
  island_size = λ label next. refl;
}
