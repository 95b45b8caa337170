-- What templates give, in cells.
use Rattle.std.proofs.Common.{◌≡◌, ℕ, ◌+◌, ◌-◌, ◌*◌, ◌/◌, ◌%◌, ◌^◌, ◌<◌, ◌≤◌, Bool, true, false, List, [], ◌∷◌, map, nat_eq, if◌then◌else◌, refl, sym, ap, ◌∙◌, arith, add-zero, ⊎_elim, ◌⊎◌, inl, inr, ◌≢◌}
use Rattle.std.specs.Prelude.{bit_and, ◌==◌, pos, negsuc, ◌-ℤ◌}
use Rattle.std.proofs.lemmas.Int.{ints}
use Rattle.std.proofs.lemmas.Grind.{common_steps}
use Rattle.std.proofs.lemmas.Bool.{cases_eq, cases_lt, eq-eqb, ne_eqb, lt-ltb, le-ltb}
use Rattle.br_word.specs.declared.types.ShiftOp.{ShiftOp}
use Rattle.br_word.specs.declared.types.ShiftOp.TheVariants.{Shl, Shr, Sar}
use Rattle.br_word.specs.declared.types.Width.TheVariants.{B8, B16, B32}
use Rattle.br_word.specs.Words as words
use Rattle.br_word.specs.Words.{bit, signed, floor_div}
use Rattle.br_word.specs.Flags.{shift_value, shift_of}
use Rattle.ia_inst.specs.declared.inst.Count.TheVariants as count
use Rattle.ia_inst.specs.Meaning.{Result, shifted, shift_changes, no_changes}
use Rattle.par_moves.specs.declared.locations.Place.{Place}
use Rattle.par_moves.specs.declared.locations.Place.TheVariants.{Reg, Slot}
use Rattle.par_moves.specs.declared.locations.MoveSource.{MoveSource as Source}
use Rattle.par_moves.specs.declared.locations.MoveSource.TheVariants.{Place as Held, Num}
use Rattle.par_moves.specs.Locations.{same_place as place_eq, held, IsKept, IsFree}
use Rattle.ssa_form.specs.declared.form.BinOp.{BinOp}
use Rattle.ssa_form.specs.declared.form.BinOp.TheVariants.{Add, Sub, And, Or, Xor, Mul, MulOver, Shl as ShiftLeft, Shr as ShiftRight, Sar as ShiftSigned, Eq, Ult}
use Rattle.ssa_form.specs.declared.form.OneOp.{OneOp}
use Rattle.ssa_form.specs.declared.form.OneOp.TheVariants.{Parity, Sext8, Sext16}
use Rattle.ssa_form.specs.Value.{bin_value, one_value, select_value}
use Rattle.emit_ops.specs.Templates.{bin_code, one_code, move_code}
use Rattle.code_laws.specs.Seen.{Cells}
use Rattle.code_laws.specs.Laws.{Gave}
use Rattle.code_laws.proofs.Ops.{Op, OMov, OAlu, OCmp, OTest, OTest8, OImul, OShift, OSext, OSetcc, OCmov, inst, acts, put}

pub place_eq_refl : (p : Place) → place_eq p p ≡ true
place_eq_refl (Reg r) = eq-eqb r r refl
place_eq_refl (Slot k) = eq-eqb k k refl

-- a write of eax or ecx changes no operand
pub held_eax : (a : Source) (v : ℕ) (f : Place → ℕ) → IsFree a → held (put (Reg 0) v f) a ≡ held f a
held_eax (Held p) v f h = rw (h.not_eax)
held_eax (Num n) v f h = refl

pub held_ecx : (a : Source) (v : ℕ) (f : Place → ℕ) → IsFree a → held (put (Reg 1) v f) a ≡ held f a
held_ecx (Held p) v f h = rw (h.not_ecx)
held_ecx (Num n) v f h = refl

abbrev pub keep_op : Place → Op
keep_op r = OMov r (Held (Reg 0))

abbrev alu_ops : ℕ → Source → Source → Place → List Op
alu_ops op a b r = OMov (Reg 0) a ∷ OAlu op b ∷ keep_op r ∷ []

abbrev shift_ops : ShiftOp → Source → Source → Place → List Op
shift_ops op a b r = OMov (Reg 0) a ∷ OMov (Reg 1) b ∷ OShift op 0 count.Cl ∷ keep_op r ∷ []

abbrev test_ops : ℕ → Source → Source → Place → List Op
test_ops cond a b r = OMov (Reg 0) a ∷ OCmp b ∷ OMov (Reg 0) (Num 0) ∷ OSetcc cond (Reg 0) ∷ keep_op r ∷ []

abbrev pub bin_ops : BinOp → Source → Source → Place → List Op
bin_ops Add a b r = alu_ops 0 a b r
bin_ops Sub a b r = alu_ops 5 a b r
bin_ops And a b r = alu_ops 4 a b r
bin_ops Or a b r = alu_ops 1 a b r
bin_ops Xor a b r = alu_ops 6 a b r
bin_ops Mul a b r = OMov (Reg 0) a ∷ OMov (Reg 1) b ∷ OImul ∷ keep_op r ∷ []
bin_ops MulOver a b r = OMov (Reg 0) a ∷ OMov (Reg 1) b ∷ OImul ∷ OMov (Reg 0) (Num 0) ∷ OSetcc 0 (Reg 0) ∷ keep_op r ∷ []
bin_ops ShiftLeft a b r = shift_ops Shl a b r
bin_ops ShiftRight a b r = shift_ops Shr a b r
bin_ops ShiftSigned a b r = shift_ops Sar a b r
bin_ops Eq a b r = test_ops 4 a b r
bin_ops Ult a b r = test_ops 2 a b r

abbrev pub one_ops : OneOp → Source → Place → List Op
one_ops Parity a r = OMov (Reg 0) a ∷ OTest8 ∷ OMov (Reg 0) (Num 0) ∷ OSetcc 10 (Reg 0) ∷ keep_op r ∷ []
one_ops Sext8 a r = OMov (Reg 0) a ∷ OSext B8 ∷ keep_op r ∷ []
one_ops Sext16 a r = OMov (Reg 0) a ∷ OSext B16 ∷ keep_op r ∷ []

abbrev pub select_ops : Source → Source → Source → Place → List Op
select_ops c a b r = OMov (Reg 0) c ∷ OTest ∷ OMov (Reg 0) b ∷ OMov (Reg 1) a ∷ OCmov ∷ keep_op r ∷ []

abbrev pub move_ops : Place → Source → List Op
move_ops (Reg r) a = OMov (Reg r) a ∷ []
move_ops (Slot k) (Num n) = OMov (Slot k) (Num n) ∷ []
move_ops (Slot k) (Held (Reg r)) = OMov (Slot k) (Held (Reg r)) ∷ []
move_ops (Slot k) (Held (Slot j)) = OMov (Reg 0) (Held (Slot j)) ∷ keep_op (Slot k) ∷ []

-- the templates are these operations
pub bin_is : (op : BinOp) (a b : Source) (r : Place) → map inst (bin_ops op a b r) ≡ bin_code op a b r
bin_is Add a b r = refl
bin_is Sub a b r = refl
bin_is And a b r = refl
bin_is Or a b r = refl
bin_is Xor a b r = refl
bin_is Mul a b r = refl
bin_is MulOver a b r = refl
bin_is ShiftLeft a b r = refl
bin_is ShiftRight a b r = refl
bin_is ShiftSigned a b r = refl
bin_is Eq a b r = refl
bin_is Ult a b r = refl

pub one_is : (op : OneOp) (a : Source) (r : Place) → map inst (one_ops op a r) ≡ one_code op a r
one_is Parity a r = refl
one_is Sext8 a r = refl
one_is Sext16 a r = refl

pub move_is : (p : Place) (x : Source) → map inst (move_ops p x) ≡ move_code p x
move_is (Reg r) x = refl
move_is (Slot k) (Num n) = refl
move_is (Slot k) (Held (Reg r)) = refl
move_is (Slot k) (Held (Slot j)) = refl

-- ---- values

pub and_self : (n : ℕ) → bit_and n n ≡ n
and_self n = grind (arith, common_steps)

-- a byte is its flag after SETcc over 0
flag_byte : (b : Bool) → 0 / 256 * 256 + bit b ≡ bit b
flag_byte true = refl
flag_byte false = refl

-- the difference is 0 exactly where the numbers are the same
pub eq_test : (a b : ℕ) → a < 2 ^ 32 → b < 2 ^ 32 → ((a + 2 ^ 32 - (b + 0)) % 2 ^ 32 == 0) ≡ nat_eq a b
eq_test a b ha hb = ⊎_elim
    (λ (e : a ≡ b). let z : (a + 2 ^ 32 - (b + 0)) % 2 ^ 32 ≡ 0 = omega arith in eq-eqb _ 0 z ∙ sym (eq-eqb a b e))
    (λ (n : a ≢ b). let z : (a + 2 ^ 32 - (b + 0)) % 2 ^ 32 ≢ 0 = λ e. n (omega arith) in ne_eqb _ 0 z ∙ sym (ne_eqb a b n))
    (cases_eq a b)

byte_twice : (v : ℕ) → v % 256 % 256 ≡ v % 256
byte_twice v = omega arith

count_is : (n : ℕ) → n % 256 % 32 ≡ n % 32
count_is n = omega arith

-- by 0 a shift keeps the value
shift_none : (op : ShiftOp) (v : ℕ) → v < 2 ^ 32 → v ≡ shift_value op 32 v 0
shift_none Shl v h = omega arith
shift_none Shr v h = omega arith
shift_none Sar v h = either (cases_lt v (2 ^ 31))
  where
    high : 2 ^ 31 ≤ v → pos v -ℤ pos (2 ^ 32) ≡ negsuc (2 ^ 32 - 1 - v)
    high l = grind (arith, ints)

    either : ((v < 2 ^ 31) ⊎ (2 ^ 31 ≤ v)) → v ≡ words.wrap (2 ^ 32) (floor_div (signed 32 v) 1)
    either (inl l) = rw (lt-ltb v (2 ^ 31) l) (omega arith)
    either (inr l) = rw (le-ltb v (2 ^ 31) l, high l) (omega arith)

shifted_is : (op : ShiftOp) (v n : ℕ) → v < 2 ^ 32 → (shifted op B32 v n).value ≡ shift_value op 32 v n
shifted_is op v n h = ⊎_elim
    (λ (e : n ≡ 0). rw e (shift_none op v h))
    (λ (e : n ≢ 0). ap (λ b. (λ (r : Result). r.value) (if b then record { value = v; changes = no_changes } else record { value = (shift_of op B32 v n).value; changes = shift_changes (shift_of op B32 v n) })) (ne_eqb n 0 e))
    (cases_eq n 0)

module _ (a : Cells) (cs : List ℕ) (r : Place) (hr : IsKept r) where
  shift_gives : (op : ShiftOp) (x y : Source) → IsFree x → IsFree y → held a.cell x < 2 ^ 32 → Gave a r (shift_value op 32 (held a.cell x) (held a.cell y % 32)) (acts (shift_ops op x y r) a cs)
  shift_gives op x y hx hy lx = record {
    value = simp (place_eq_refl, held_eax, count_is) (shifted_is op (held a.cell x) (held a.cell y % 32) lx);
    others = λ q hq n. simp (n, hq.not_eax, hq.not_ecx);
    df = refl;
    besides = record { outer = refl; seen = refl; brk_start = refl; brk = refl };
  }

  pub bin_gives : (op : BinOp) (x y : Source) → IsFree x → IsFree y → held a.cell x < 2 ^ 32 → held a.cell y < 2 ^ 32 → Gave a r (bin_value op (held a.cell x) (held a.cell y)) (acts (bin_ops op x y r) a cs)
  bin_gives Add x y hx hy lx ly = record { value = simp (place_eq_refl, held_eax, add-zero); others = λ q hq n. simp (n, hq.not_eax); df = refl; besides = record { outer = refl; seen = refl; brk_start = refl; brk = refl } }
  bin_gives Sub x y hx hy lx ly = record { value = simp (place_eq_refl, held_eax, add-zero); others = λ q hq n. simp (n, hq.not_eax); df = refl; besides = record { outer = refl; seen = refl; brk_start = refl; brk = refl } }
  bin_gives And x y hx hy lx ly = record { value = simp (place_eq_refl, held_eax); others = λ q hq n. simp (n, hq.not_eax); df = refl; besides = record { outer = refl; seen = refl; brk_start = refl; brk = refl } }
  bin_gives Or x y hx hy lx ly = record { value = simp (place_eq_refl, held_eax); others = λ q hq n. simp (n, hq.not_eax); df = refl; besides = record { outer = refl; seen = refl; brk_start = refl; brk = refl } }
  bin_gives Xor x y hx hy lx ly = record { value = simp (place_eq_refl, held_eax); others = λ q hq n. simp (n, hq.not_eax); df = refl; besides = record { outer = refl; seen = refl; brk_start = refl; brk = refl } }
  bin_gives Mul x y hx hy lx ly = record { value = simp (place_eq_refl, held_eax); others = λ q hq n. simp (n, hq.not_eax, hq.not_ecx); df = refl; besides = record { outer = refl; seen = refl; brk_start = refl; brk = refl } }
  bin_gives MulOver x y hx hy lx ly = record { value = simp (place_eq_refl, held_eax, flag_byte); others = λ q hq n. simp (n, hq.not_eax, hq.not_ecx); df = refl; besides = record { outer = refl; seen = refl; brk_start = refl; brk = refl } }
  bin_gives ShiftLeft x y hx hy lx ly = shift_gives Shl x y hx hy lx
  bin_gives ShiftRight x y hx hy lx ly = shift_gives Shr x y hx hy lx
  bin_gives ShiftSigned x y hx hy lx ly = shift_gives Sar x y hx hy lx
  bin_gives Eq x y hx hy lx ly = record { value = simp (place_eq_refl, held_eax, eq_test, flag_byte); others = λ q hq n. simp (n, hq.not_eax); df = refl; besides = record { outer = refl; seen = refl; brk_start = refl; brk = refl } }
  bin_gives Ult x y hx hy lx ly = record { value = simp (place_eq_refl, held_eax, flag_byte, add-zero); others = λ q hq n. simp (n, hq.not_eax); df = refl; besides = record { outer = refl; seen = refl; brk_start = refl; brk = refl } }

  pub one_gives : (op : OneOp) (x : Source) → IsFree x → Gave a r (one_value op (held a.cell x)) (acts (one_ops op x r) a cs)
  one_gives Parity x hx = record { value = simp (place_eq_refl, and_self, byte_twice, flag_byte); others = λ q hq n. simp (n, hq.not_eax); df = refl; besides = record { outer = refl; seen = refl; brk_start = refl; brk = refl } }
  one_gives Sext8 x hx = record { value = simp place_eq_refl; others = λ q hq n. simp (n, hq.not_eax); df = refl; besides = record { outer = refl; seen = refl; brk_start = refl; brk = refl } }
  one_gives Sext16 x hx = record { value = simp place_eq_refl; others = λ q hq n. simp (n, hq.not_eax); df = refl; besides = record { outer = refl; seen = refl; brk_start = refl; brk = refl } }

  pub select_gives : (c x y : Source) → IsFree c → IsFree x → IsFree y → Gave a r (select_value (held a.cell c) (held a.cell x) (held a.cell y)) (acts (select_ops c x y r) a cs)
  select_gives c x y hc hx hy = record { value = simp (place_eq_refl, held_eax, and_self); others = λ q hq n. simp (n, hq.not_eax, hq.not_ecx); df = refl; besides = record { outer = refl; seen = refl; brk_start = refl; brk = refl } }

pub move_gives : (a : Cells) (cs : List ℕ) (p : Place) (x : Source) → Gave a p (held a.cell x) (acts (move_ops p x) a cs)
move_gives a cs (Reg r) x = record { value = simp place_eq_refl; others = λ q hq n. simp n; df = refl; besides = record { outer = refl; seen = refl; brk_start = refl; brk = refl } }
move_gives a cs (Slot k) (Num n) = record { value = simp place_eq_refl; others = λ q hq n. simp n; df = refl; besides = record { outer = refl; seen = refl; brk_start = refl; brk = refl } }
move_gives a cs (Slot k) (Held (Reg r)) = record { value = simp place_eq_refl; others = λ q hq n. simp n; df = refl; besides = record { outer = refl; seen = refl; brk_start = refl; brk = refl } }
move_gives a cs (Slot k) (Held (Slot j)) = record { value = simp place_eq_refl; others = λ q hq n. simp (n, hq.not_eax); df = refl; besides = record { outer = refl; seen = refl; brk_start = refl; brk = refl } }
