-- What is valid has its canonical spelling.
use Rattle.std.proofs.Common.{◌≡◌, ℕ, ◌+◌, ◌*◌, ◌%◌, ◌^◌, ◌<◌, ◌≤◌, Bool, true, false, cond, not, ◌==◌, ◌&&◌, ◌||◌, List, [], ◌∷◌, ◌++◌, length, Option, Some, None, refl, sym, ap, subst, arith, inl, inr, ◌⊎◌, lit<, lit≤}
use Rattle.std.specs.Prelude.{nat_lt}
use Rattle.std.proofs.lemmas.Bool.Decides.{nat_tests}
use Rattle.std.proofs.lemmas.List.{length-append}
use Rattle.ia_inst.specs.declared.inst.Addr.{Addr}
use Rattle.ia_inst.specs.declared.inst.Rm.{Rm}
use Rattle.ia_inst.specs.declared.inst.Rm.TheVariants.{Reg, Mem}
use Rattle.ia_inst.specs.declared.inst.Src.{Src}
use Rattle.ia_inst.specs.declared.inst.Src.TheVariants as src
use Rattle.ia_inst.specs.declared.inst.Count.{Count}
use Rattle.ia_inst.specs.declared.inst.Count.TheVariants as count
use Rattle.br_word.specs.declared.types.ShiftOp.{ShiftOp}
use Rattle.br_word.specs.declared.types.ShiftOp.TheVariants.{Shl, Shr, Sar}
use Rattle.br_word.specs.declared.types.Width.{Width}
use Rattle.br_word.specs.declared.types.Width.TheVariants.{B8, B16, B32}
use Rattle.ia_inst.specs.declared.inst.Inst.{Inst}
use Rattle.ia_inst.specs.declared.inst.Inst.TheVariants as inst
use Rattle.ia_inst.specs.Operands.{two, four, extended, fields, address, scaled, Displacement, nothing, byte, word, Based, base, no_base, sib, plain, Operand, register, memory}
use Rattle.ia_inst.specs.Spells as spells
use Rattle.ia_inst.specs.Spells.{Row, Spells, size, pair, imm, limit, IsLong, extended_to, ShiftField, RotateField}
use Rattle.ia_inst.specs.Canonical.{base_valid, index_valid, address_valid, rm_valid, imm_valid, move_valid, test_valid, is_long, source_valid, count_valid, by_valid, widens, valid_of, fits_byte, mode, displacement, log, memory_bytes, operand_bytes, fits_extended, alu_bytes, test_bytes, mov_bytes, step_bytes, push_bytes, pop_bytes, imul_bytes, shift_reg, shift_bytes, rotate_reg, rotate_bytes, extend_bytes, string_bytes, canonical}

both : (a b : Bool) → (a && b) ≡ true → (a ≡ true) × (b ≡ true)
both true true e = (refl, refl)
both true false e = absurd cc
both false b e = absurd cc

less : (a b : ℕ) → nat_lt a b ≡ true → a < b
less a b h = grind (arith, nat_tests)

is : (a b : ℕ) → (a == b) ≡ true → a ≡ b
is a b h = grind (arith, nat_tests)

isnt : (a b : ℕ) → (a == b) ≡ false → a ≡ b → ⊥
isnt a b h e = grind (arith, nat_tests)

not_is : (b : Bool) → not b ≡ true → b ≡ false
not_is true e = absurd cc
not_is false e = refl

-- ---- addresses

low_byte : (d : ℕ) → d < 0x80 → extended (d % 256) ≡ d
low_byte d h = let e : d % 256 ≡ d = omega arith in rw e (grind (arith, nat_tests))

high_byte : (d : ℕ) → 0xFFFFFF7F < d → d < 2 ^ 32 → extended (d % 256) ≡ d
high_byte d h k = let e : d % 256 + 0xFFFFFF00 ≡ d = omega arith in let g : 128 ≤ d % 256 = omega arith in grind (arith, nat_tests)

either : (a b : Bool) → (a || b) ≡ true → (a ≡ true) ⊎ (b ≡ true)
either true b e = inl refl
either false b e = inr e

extended_byte : (d : ℕ) → d < 2 ^ 32 → fits_byte d ≡ true → extended (d % 256) ≡ d
extended_byte d lt h =
    elim (either (nat_lt d 0x80) (nat_lt 0xFFFFFF7F d) h) [
      | inl a ↦ low_byte d (less d 0x80 a)
      | inr b ↦ high_byte d (less 0xFFFFFF7F d b) lt
    ]

low_word : (d : ℕ) → d < 0x80 → extended_to B16 (d % 256) ≡ d
low_word d h = let e : d % 256 ≡ d = omega arith in rw e (grind (arith, nat_tests))

high_word : (d : ℕ) → 0xFF7F < d → d < 65536 → extended_to B16 (d % 256) ≡ d
high_word d h k = let e : d % 256 + 0xFF00 ≡ d = omega arith in let g : 128 ≤ d % 256 = omega arith in grind (arith, nat_tests)

extended_word : (d : ℕ) → d < 65536 → fits_extended B16 d ≡ true → extended_to B16 (d % 256) ≡ d
extended_word d lt h =
    elim (either (nat_lt d 0x80) (nat_lt 0xFF7F d) h) [
      | inl a ↦ low_word d (less d 0x80 a)
      | inr b ↦ high_word d (less 0xFF7F d b) lt
    ]

abbrev mode_by : Bool → Bool → ℕ
mode_by t u = cond t 0 (cond u 1 2)

written_displacement : (r d : ℕ) → d < 2 ^ 32 → (mode r d ≡ 0 → r ≡ 5 → ⊥) × Displacement (mode r d) (displacement r d) d
written_displacement r d lt = by_test ((d == 0) && not (r == 5)) refl (fits_byte d) refl
  where
    by_test : (t : Bool) → ((d == 0) && not (r == 5)) ≡ t → (u : Bool) → fits_byte d ≡ u → (mode_by t u ≡ 0 → r ≡ 5 → ⊥) × Displacement (mode_by t u) (cond t [] (cond u ((d % 256) ∷ []) (four d))) d
    by_test true e u f =
        let k = both (d == 0) (not (r == 5)) e in
        (λ z. isnt r 5 (not_is (r == 5) k.1), subst (λ (n : ℕ). Displacement 0 [] n) (sym (is d 0 k.0)) nothing)
    by_test false e true f = (λ z w. absurd (omega arith), subst (λ (n : ℕ). Displacement 1 ((d % 256) ∷ []) n) (extended_byte d lt f) (byte (d % 256) (omega arith)))
    by_test false e false f = (λ z w. absurd (omega arith), word d lt)

written_base : (r : ℕ) (index : Option (ℕ × ℕ)) (d : ℕ) → r < 8 → d < 2 ^ 32 → Based (mode r d) r index (displacement r d) (address (Some r) index d)
written_base r index d r8 lt = let w = written_displacement r d lt in base (mode r d) r index (displacement r d) d r8 w.0 w.1

log_low : (s : ℕ) → log s < 4
log_low s = by_test (s == 1) (s == 2) (s == 4)
  where
    by_test : (a b c : Bool) → cond a 0 (cond b 1 (cond c 2 3)) < 4
    by_test true b c = lit< tt
    by_test false true c = lit< tt
    by_test false false true = lit< tt
    by_test false false false = lit< tt

abbrev some : {A : Type 0} → A → Option A
some x = Some x

scaled_is : (x : ℕ × ℕ) → index_valid (Some x) ≡ true → (x.0 < 8) × (scaled x.0 (log x.1) ≡ Some x)
scaled_is x v =
    let k = both (nat_lt x.0 8 && not (x.0 == 4)) ((x.1 == 1) || ((x.1 == 2) || ((x.1 == 4) || (x.1 == 8)))) v in
    let l = both (nat_lt x.0 8) (not (x.0 == 4)) k.0 in
    (less x.0 8 l.0, rw (not_is (x.0 == 4) l.1) (ap (λ (n : ℕ). some (x.0, n)) (power x.1 k.1)))
  where
    power : (s : ℕ) → ((s == 1) || ((s == 2) || ((s == 4) || (s == 8)))) ≡ true → 2 ^ log s ≡ s
    power s e =
        elim (either (s == 1) _ e) [
          | inl a ↦ rw (is s 1 a) refl
          | inr b ↦ elim (either (s == 2) _ b) [
            | inl a ↦ rw (is s 2 a) refl
            | inr c ↦ elim (either (s == 4) _ c) [
              | inl a ↦ rw (is s 4 a) refl
              | inr a ↦ rw (is s 8 a) refl
            ]
          ]
        ]

written_memory : (g : ℕ) (b : Option ℕ) (x : Option (ℕ × ℕ)) (d : ℕ) → g < 8 → base_valid b ≡ true → index_valid x ≡ true → d < 2 ^ 32 → Operand (memory_bytes g b x d) g (Mem (address b x d))
written_memory g None None d p v i lt = memory 0 g 5 (four d) (address None None d) p (plain 0 5 (four d) (address None None d) (λ e. absurd (omega arith)) (no_base None d lt))
written_memory g None (Some x) d p v i lt =
    let s = scaled_is x i in
    let there = subst (λ (k : Option (ℕ × ℕ)). Based 0 5 k (four d) (address None (Some x) d)) (sym s.1) (no_base (Some x) d lt) in
    memory 0 g 4 (fields (log x.1) x.0 5 ∷ four d) (address None (Some x) d) p (sib 0 (log x.1) x.0 5 (four d) (address None (Some x) d) (log_low x.1) s.0 there)
written_memory g (Some r) (Some x) d p v i lt =
    let s = scaled_is x i in
    let there = subst (λ (k : Option (ℕ × ℕ)). Based (mode r d) r k (displacement r d) (address (Some r) (Some x) d)) (sym s.1) (written_base r (Some x) d (less r 8 v) lt) in
    memory (mode r d) g 4 (fields (log x.1) x.0 r ∷ displacement r d) (address (Some r) (Some x) d) p (sib (mode r d) (log x.1) x.0 r (displacement r d) (address (Some r) (Some x) d) (log_low x.1) s.0 there)
written_memory g (Some r) None d p v i lt = by_test (r == 4) refl
  where
    by_test : (t : Bool) → (r == 4) ≡ t → Operand (cond t (fields (mode r d) g 4 ∷ fields 0 4 r ∷ displacement r d) (fields (mode r d) g r ∷ displacement r d)) g (Mem (address (Some r) None d))
    by_test true e = memory (mode r d) g 4 (fields 0 4 r ∷ displacement r d) (address (Some r) None d) p (sib (mode r d) 0 4 r (displacement r d) (address (Some r) None d) (lit< tt) (lit< tt) (written_base r None d (less r 8 v) lt))
    by_test false e = memory (mode r d) g r (displacement r d) (address (Some r) None d) p (plain (mode r d) r (displacement r d) (address (Some r) None d) (isnt r 4 e) (written_base r None d (less r 8 v) lt))

written_address : (g : ℕ) (a : Addr) → g < 8 → address_valid a ≡ true → Operand (operand_bytes g (Mem a)) g (Mem a)
written_address g a p v =
    let k = both (base_valid a.base) (index_valid a.index && imm_valid B32 a.disp) v in
    let l = both (index_valid a.index) (imm_valid B32 a.disp) k.1 in
    written_memory g a.base a.index a.disp p k.0 l.0 (less a.disp 4294967296 l.1)

written : (g : ℕ) (a : Rm) → g < 8 → rm_valid a ≡ true → Operand (operand_bytes g a) g a
written g (Reg r) p v = register g r p (less r 8 v)
written g (Mem a) p v = written_address g a p v

-- ---- rows

imm_low : (w : Width) (n : ℕ) → imm_valid w n ≡ true → n < limit w
imm_low B8 n v = less n 256 v
imm_low B16 n v = less n 65536 v
imm_low B32 n v = less n 4294967296 v

alu_written : (k : ℕ) (w : Width) (a : Rm) (s : Src) → k < 8 → move_valid w a s ≡ true → Row (alu_bytes k w a s) (inst.Alu k w a s)
alu_written k w a (src.Rm (Reg r)) p v = let l = both (rm_valid a) (nat_lt r 8) v in spells.row1 k r w (operand_bytes r a) a p (written r a (less r 8 l.1) l.0)
alu_written k w (Reg r) (src.Rm (Mem b)) p v = let l = both (nat_lt r 8) (address_valid b) v in spells.row2 k r w (operand_bytes r (Mem b)) (Mem b) p (written r (Mem b) (less r 8 l.0) l.1)
alu_written k w (Mem a) (src.Rm (Mem b)) p v = absurd cc
alu_written k B8 a (src.Imm n) p v = let l = both (rm_valid a) (imm_valid B8 n) v in spells.row4 k n (operand_bytes k a) a (written k a p l.0) (imm_low B8 n l.1)
alu_written k B16 a (src.Imm n) p v = by_test (fits_extended B16 n) refl
  where
    by_test : (t : Bool) → fits_extended B16 n ≡ t → Row (cond t (size B16 ++ 0x83 ∷ operand_bytes k a ++ (n % 256) ∷ []) (size B16 ++ 0x81 ∷ operand_bytes k a ++ imm B16 n)) (inst.Alu k B16 a (src.Imm n))
    by_test true e = let l = both (rm_valid a) (imm_valid B16 n) v in subst (λ (q : ℕ). Row (size B16 ++ 0x83 ∷ operand_bytes k a ++ (n % 256) ∷ []) (inst.Alu k B16 a (src.Imm q))) (extended_word n (imm_low B16 n l.1) e) (spells.row5 k (n % 256) B16 (operand_bytes k a) a tt (written k a p l.0) (omega arith))
    by_test false e = let l = both (rm_valid a) (imm_valid B16 n) v in spells.row6 k n B16 (operand_bytes k a) a tt (written k a p l.0) (imm_low B16 n l.1)
alu_written k B32 a (src.Imm n) p v = by_test (fits_extended B32 n) refl
  where
    by_test : (t : Bool) → fits_extended B32 n ≡ t → Row (cond t (size B32 ++ 0x83 ∷ operand_bytes k a ++ (n % 256) ∷ []) (size B32 ++ 0x81 ∷ operand_bytes k a ++ imm B32 n)) (inst.Alu k B32 a (src.Imm n))
    by_test true e = let l = both (rm_valid a) (imm_valid B32 n) v in subst (λ (q : ℕ). Row (size B32 ++ 0x83 ∷ operand_bytes k a ++ (n % 256) ∷ []) (inst.Alu k B32 a (src.Imm q))) (extended_byte n (imm_low B32 n l.1) e) (spells.row5 k (n % 256) B32 (operand_bytes k a) a tt (written k a p l.0) (omega arith))
    by_test false e = let l = both (rm_valid a) (imm_valid B32 n) v in spells.row6 k n B32 (operand_bytes k a) a tt (written k a p l.0) (imm_low B32 n l.1)

test_written : (w : Width) (a : Rm) (s : Src) → test_valid w a s ≡ true → Row (test_bytes w a s) (inst.Test w a s)
test_written w a (src.Rm (Reg r)) v = let l = both (rm_valid a) (nat_lt r 8) v in spells.row7 r w (operand_bytes r a) a (written r a (less r 8 l.1) l.0)
test_written w a (src.Rm (Mem b)) v = absurd cc
test_written w a (src.Imm n) v = let l = both (rm_valid a) (imm_valid w n) v in spells.row9 n w (operand_bytes 0 a) a (written 0 a (lit< tt) l.0) (imm_low w n l.1)

mov_written : (w : Width) (a : Rm) (s : Src) → move_valid w a s ≡ true → Row (mov_bytes w a s) (inst.Mov w a s)
mov_written w a (src.Rm (Reg r)) v = let l = both (rm_valid a) (nat_lt r 8) v in spells.row10 r w (operand_bytes r a) a (written r a (less r 8 l.1) l.0)
mov_written w (Reg r) (src.Rm (Mem b)) v = let l = both (nat_lt r 8) (address_valid b) v in spells.row11 r w (operand_bytes r (Mem b)) (Mem b) (written r (Mem b) (less r 8 l.0) l.1)
mov_written w (Mem a) (src.Rm (Mem b)) v = absurd cc
mov_written B8 (Reg r) (src.Imm n) v = let l = both (nat_lt r 8) (imm_valid B8 n) v in spells.row12_byte r n (less r 8 l.0) (imm_low B8 n l.1)
mov_written B16 (Reg r) (src.Imm n) v = let l = both (nat_lt r 8) (imm_valid B16 n) v in spells.row12 r n B16 tt (less r 8 l.0) (imm_low B16 n l.1)
mov_written B32 (Reg r) (src.Imm n) v = let l = both (nat_lt r 8) (imm_valid B32 n) v in spells.row12 r n B32 tt (less r 8 l.0) (imm_low B32 n l.1)
mov_written w (Mem a) (src.Imm n) v = let l = both (address_valid a) (imm_valid w n) v in spells.row13 n w (operand_bytes 0 (Mem a)) (Mem a) (written_address 0 a (lit< tt) l.0) (imm_low w n l.1)

inc_written : (w : Width) (a : Rm) → rm_valid a ≡ true → Row (step_bytes 0x40 0 w a) (inst.Inc w a)
inc_written B16 (Reg r) v = spells.row18_inc r B16 tt (less r 8 v)
inc_written B32 (Reg r) v = spells.row18_inc r B32 tt (less r 8 v)
inc_written B8 (Reg r) v = spells.row19_inc B8 _ (Reg r) (written 0 (Reg r) (lit< tt) v)
inc_written w (Mem a) v = spells.row19_inc w _ (Mem a) (written_address 0 a (lit< tt) v)

dec_written : (w : Width) (a : Rm) → rm_valid a ≡ true → Row (step_bytes 0x48 1 w a) (inst.Dec w a)
dec_written B16 (Reg r) v = spells.row18_dec r B16 tt (less r 8 v)
dec_written B32 (Reg r) v = spells.row18_dec r B32 tt (less r 8 v)
dec_written B8 (Reg r) v = spells.row19_dec B8 _ (Reg r) (written 1 (Reg r) (lit< tt) v)
dec_written w (Mem a) v = spells.row19_dec w _ (Mem a) (written_address 1 a (lit< tt) v)

push_written : (s : Src) → source_valid s ≡ true → Row (push_bytes s) (inst.Push s)
push_written (src.Rm (Reg r)) v = spells.row21 r (less r 8 v)
push_written (src.Rm (Mem a)) v = spells.row24 _ (Mem a) (written_address 6 a (lit< tt) v)
push_written (src.Imm n) v = by_test (fits_byte n) refl
  where
    by_test : (t : Bool) → fits_byte n ≡ t → Row (cond t (0x6A ∷ (n % 256) ∷ []) (0x68 ∷ four n)) (inst.Push (src.Imm n))
    by_test true e = subst (λ (q : ℕ). Row (0x6A ∷ (n % 256) ∷ []) (inst.Push (src.Imm q))) (extended_byte n (imm_low B32 n v) e) (spells.row22 (n % 256) (omega arith))
    by_test false e = spells.row23 n (imm_low B32 n v)

pop_written : (a : Rm) → rm_valid a ≡ true → Row (pop_bytes a) (inst.Pop a)
pop_written (Reg r) v = spells.row25 r (less r 8 v)
pop_written (Mem a) v = spells.row26 _ (Mem a) (written_address 0 a (lit< tt) v)

imul_written : (g : ℕ) (a : Rm) (k : Option ℕ) → g < 8 → rm_valid a ≡ true → by_valid k ≡ true → Row (imul_bytes g a k) (inst.Imul g a k)
imul_written g a None p v u = spells.row28 g _ a (written g a p v)
imul_written g a (Some n) p v u = by_test (fits_byte n) refl
  where
    by_test : (t : Bool) → fits_byte n ≡ t → Row (cond t (0x6B ∷ operand_bytes g a ++ (n % 256) ∷ []) (0x69 ∷ operand_bytes g a ++ four n)) (inst.Imul g a (Some n))
    by_test true e = subst (λ (q : ℕ). Row (0x6B ∷ operand_bytes g a ++ (n % 256) ∷ []) (inst.Imul g a (Some q))) (extended_byte n (imm_low B32 n u) e) (spells.row29 g (n % 256) _ a (written g a p v) (omega arith))
    by_test false e = spells.row30 g n _ a (written g a p v) (imm_low B32 n u)

shift_field : (op : ShiftOp) → ShiftField (shift_reg op) op × (shift_reg op < 8)
shift_field Shl = (spells.shl, lit< tt)
shift_field Shr = (spells.shr, lit< tt)
shift_field Sar = (spells.sar, lit< tt)

rotate_field : (right : Bool) → RotateField (rotate_reg right) right × (rotate_reg right < 8)
rotate_field true = (spells.right, lit< tt)
rotate_field false = (spells.left, lit< tt)

shift_written : (op : ShiftOp) (w : Width) (a : Rm) (k : Count) → rm_valid a ≡ true → count_valid k ≡ true → Row (shift_bytes op w a k) (inst.Shift op w a k)
shift_written op w a count.Cl v u = let f = shift_field op in spells.row33 _ op w _ a f.0 (written _ a f.1 v)
shift_written op w a (count.Imm n) v u = by_test (n == 1) refl
  where
    by_test : (t : Bool) → (n == 1) ≡ t → Row (cond t (pair w 0xD0 ++ operand_bytes (shift_reg op) a) (pair w 0xC0 ++ operand_bytes (shift_reg op) a ++ n ∷ [])) (inst.Shift op w a (count.Imm n))
    by_test true e = let f = shift_field op in subst (λ (q : ℕ). Row (pair w 0xD0 ++ operand_bytes (shift_reg op) a) (inst.Shift op w a (count.Imm q))) (sym (is n 1 e)) (spells.row31 _ op w _ a f.0 (written _ a f.1 v))
    by_test false e = let f = shift_field op in spells.row32 _ n op w _ a f.0 (written _ a f.1 v) (imm_low B8 n u)

rotate_written : (right : Bool) (a : Rm) (k : Count) → rm_valid a ≡ true → count_valid k ≡ true → Row (rotate_bytes right a k) (inst.Rotate right a k)
rotate_written right a count.Cl v u = let f = rotate_field right in spells.row34_cl _ right _ a f.0 (written _ a f.1 v)
rotate_written right a (count.Imm n) v u = by_test (n == 1) refl
  where
    by_test : (t : Bool) → (n == 1) ≡ t → Row (cond t (0xD1 ∷ operand_bytes (rotate_reg right) a) (0xC1 ∷ operand_bytes (rotate_reg right) a ++ n ∷ [])) (inst.Rotate right a (count.Imm n))
    by_test true e = let f = rotate_field right in subst (λ (q : ℕ). Row (0xD1 ∷ operand_bytes (rotate_reg right) a) (inst.Rotate right a (count.Imm q))) (sym (is n 1 e)) (spells.row34_one _ right _ a f.0 (written _ a f.1 v))
    by_test false e = let f = rotate_field right in spells.row34_byte _ n right _ a f.0 (written _ a f.1 v) (imm_low B8 n u)

extend_written : (signed : Bool) (from to : Width) (g : ℕ) (a : Rm) → widens from to ≡ true → g < 8 → rm_valid a ≡ true → Row (extend_bytes signed from to g a) (inst.Extend signed from to g a)
extend_written false B8 B16 g a u p v = spells.row36_zero g B16 _ a tt (written g a p v)
extend_written false B8 B32 g a u p v = spells.row36_zero g B32 _ a tt (written g a p v)
extend_written true B8 B16 g a u p v = spells.row36_signed g B16 _ a tt (written g a p v)
extend_written true B8 B32 g a u p v = spells.row36_signed g B32 _ a tt (written g a p v)
extend_written false B16 B32 g a u p v = spells.row37_zero g _ a (written g a p v)
extend_written true B16 B32 g a u p v = spells.row37_signed g _ a (written g a p v)
extend_written signed _ _ g a u p v = absurd cc

lea_written : (w : Width) (g : ℕ) (a : Addr) → is_long w ≡ true → g < 8 → address_valid a ≡ true → Row (size w ++ 0x8D ∷ operand_bytes g (Mem a)) (inst.Lea w g a)
lea_written B8 g a u p v = absurd cc
lea_written B16 g a u p v = spells.row15 g true (0x66 ∷ []) _ a (spells.with_66 [] false spells.end) (written_address g a p v)
lea_written B32 g a u p v = spells.row15 g false [] _ a spells.end (written_address g a p v)

movs_written : (w : Width) (rep : Bool) → Row (string_bytes 0xA4 w rep) (inst.Movs w rep)
movs_written w false = spells.row50 w false (size w) (spells.once w)
movs_written B8 true = spells.row50 B8 true _ (spells.repeated B8)
movs_written B16 true = spells.row50 B16 true _ spells.turned
movs_written B32 true = spells.row50 B32 true _ (spells.repeated B32)

stos_written : (w : Width) (rep : Bool) → Row (string_bytes 0xAA w rep) (inst.Stos w rep)
stos_written w false = spells.row51 w false (size w) (spells.once w)
stos_written B8 true = spells.row51 B8 true _ (spells.repeated B8)
stos_written B16 true = spells.row51 B16 true _ spells.turned
stos_written B32 true = spells.row51 B32 true _ (spells.repeated B32)

ret_written : (n : ℕ) → imm_valid B16 n ≡ true → Row (cond (n == 0) (0xC3 ∷ []) (0xC2 ∷ two n)) (inst.Ret n)
ret_written n v = by_test (n == 0) refl
  where
    by_test : (t : Bool) → (n == 0) ≡ t → Row (cond t (0xC3 ∷ []) (0xC2 ∷ two n)) (inst.Ret n)
    by_test true e = subst (λ (q : ℕ). Row (0xC3 ∷ []) (inst.Ret q)) (sym (is n 0 e)) (spells.row47 [] spells.absent)
    by_test false e = spells.row48 n (imm_low B16 n v)

pub canonical_row : (i : Inst) → valid_of i ≡ true → Row (canonical i) i
canonical_row (inst.Alu k w a s) v = let l = both (nat_lt k 8) (move_valid w a s) v in alu_written k w a s (less k 8 l.0) l.1
canonical_row (inst.Test w a s) v = test_written w a s v
canonical_row (inst.Mov w a s) v = mov_written w a s v
canonical_row (inst.Lea w g a) v =
    let l = both (is_long w) (nat_lt g 8 && address_valid a) v in
    let m = both (nat_lt g 8) (address_valid a) l.1 in
    lea_written w g a l.0 (less g 8 m.0) m.1
canonical_row (inst.Xchg w a g) v = let l = both (rm_valid a) (nat_lt g 8) v in spells.row16 g w _ a (written g a (less g 8 l.1) l.0)
canonical_row (inst.Inc w a) v = inc_written w a v
canonical_row (inst.Dec w a) v = dec_written w a v
canonical_row (inst.Not w a) v = spells.row20_not w _ a (written 2 a (lit< tt) v)
canonical_row (inst.Neg w a) v = spells.row20_neg w _ a (written 3 a (lit< tt) v)
canonical_row (inst.Push s) v = push_written s v
canonical_row (inst.Pop a) v = pop_written a v
canonical_row (inst.MulDiv k a) v =
    let l = both (nat_lt 3 k && nat_lt k 8) (rm_valid a) v in
    let m = both (nat_lt 3 k) (nat_lt k 8) l.0 in
    spells.row27 k _ a (less 3 k m.0) (written k a (less k 8 m.1) l.1)
canonical_row (inst.Imul g a k) v =
    let l = both (nat_lt g 8) (rm_valid a && by_valid k) v in
    let m = both (rm_valid a) (by_valid k) l.1 in
    imul_written g a k (less g 8 l.0) m.0 m.1
canonical_row (inst.Shift op w a k) v = let l = both (rm_valid a) (count_valid k) v in shift_written op w a k l.0 l.1
canonical_row (inst.Rotate right a k) v = let l = both (rm_valid a) (count_valid k) v in rotate_written right a k l.0 l.1
canonical_row inst.Cwde v = spells.row35_cwde
canonical_row inst.Cdq v = spells.row35_cdq
canonical_row (inst.Extend signed from to g a) v =
    let l = both (widens from to) (nat_lt g 8 && rm_valid a) v in
    let m = both (nat_lt g 8) (rm_valid a) l.1 in
    extend_written signed from to g a l.0 (less g 8 m.0) m.1
canonical_row (inst.Setcc c a) v = let l = both (nat_lt c 16) (rm_valid a) v in spells.row38 c 0 _ a (less c 16 l.0) (written 0 a (lit< tt) l.1)
canonical_row (inst.Cmov c g a) v =
    let l = both (nat_lt c 16) (nat_lt g 8 && rm_valid a) v in
    let m = both (nat_lt g 8) (rm_valid a) l.1 in
    spells.row39 c g _ a (less c 16 l.0) (written g a (less g 8 m.0) m.1)
canonical_row (inst.Jcc c n) v = let l = both (nat_lt c 16) (imm_valid B32 n) v in spells.row40 c n (less c 16 l.0) (imm_low B32 n l.1)
canonical_row (inst.Jmp n) v = spells.row42 n (imm_low B32 n v)
canonical_row (inst.JmpRm a) v = spells.row44 [] _ a spells.absent (written 4 a (lit< tt) v)
canonical_row (inst.Call n) v = spells.row45 n (imm_low B32 n v)
canonical_row (inst.CallRm a) v = spells.row46 [] _ a spells.absent (written 2 a (lit< tt) v)
canonical_row (inst.Ret n) v = ret_written n v
canonical_row inst.Leave v = spells.row49
canonical_row (inst.Movs w rep) v = movs_written w rep
canonical_row (inst.Stos w rep) v = stos_written w rep
canonical_row inst.Cld v = spells.row52_cld
canonical_row inst.Std v = spells.row52_std
canonical_row inst.Sahf v = spells.row52_sahf
canonical_row inst.Int80 v = spells.row53
canonical_row inst.Nop v = spells.row54

-- ---- lengths

displacement_len : (r d : ℕ) → length (displacement r d) ≤ 4
displacement_len r d = by_test ((d == 0) && not (r == 5)) (fits_byte d)
  where
    by_test : (t u : Bool) → length (cond t [] (cond u ((d % 256) ∷ []) (four d))) ≤ 4
    by_test true u = lit≤ tt
    by_test false true = lit≤ tt
    by_test false false = lit≤ tt

memory_len : (g : ℕ) (b : Option ℕ) (x : Option (ℕ × ℕ)) (d : ℕ) → length (memory_bytes g b x d) ≤ 6
memory_len g None None d = lit≤ tt
memory_len g None (Some x) d = lit≤ tt
memory_len g (Some r) (Some x) d = omega (arith, displacement_len r d)
memory_len g (Some r) None d = by_test (r == 4)
  where
    by_test : (t : Bool) → length (cond t (fields (mode r d) g 4 ∷ fields 0 4 r ∷ displacement r d) (fields (mode r d) g r ∷ displacement r d)) ≤ 6
    by_test true = omega (arith, displacement_len r d)
    by_test false = omega (arith, displacement_len r d)

operand_len : (g : ℕ) (a : Rm) → length (operand_bytes g a) ≤ 6
operand_len g (Reg r) = lit≤ tt
operand_len g (Mem a) = memory_len g a.base a.index a.disp

imm_len : (w : Width) (n : ℕ) → length (imm w n) ≤ 4
imm_len B8 n = lit≤ tt
imm_len B16 n = lit≤ tt
imm_len B32 n = lit≤ tt

pair_len : (w : Width) (o : ℕ) → length (pair w o) ≤ 4
pair_len B8 o = lit≤ tt
pair_len B16 o = lit≤ tt
pair_len B32 o = lit≤ tt

-- an opcode with its prefixes, an operand, and an immediate
short : (x : List ℕ) (g : ℕ) (a : Rm) (y : List ℕ) → length x ≤ 4 → length y ≤ 4 → length ((x ++ operand_bytes g a) ++ y) ≤ 15
short x g a y p q = omega (arith, length-append (x ++ operand_bytes g a) y, length-append x (operand_bytes g a), operand_len g a)

short_operand : (x : List ℕ) (g : ℕ) (a : Rm) → length x ≤ 4 → length (x ++ operand_bytes g a) ≤ 15
short_operand x g a p = omega (arith, length-append x (operand_bytes g a), operand_len g a)

one_of : (t : Bool) (x y : List ℕ) → length x ≤ 15 → length y ≤ 15 → length (cond t x y) ≤ 15
one_of true x y p q = p
one_of false x y p q = q

alu_short : (k : ℕ) (w : Width) (a : Rm) (s : Src) → length (alu_bytes k w a s) ≤ 15
alu_short k w a (src.Rm (Reg r)) = short_operand (pair w (8 * k)) r a (pair_len w (8 * k))
alu_short k w (Reg r) (src.Rm (Mem b)) = short_operand (pair w (8 * k + 2)) r (Mem b) (pair_len w (8 * k + 2))
alu_short k w (Mem a) (src.Rm (Mem b)) = lit≤ tt
alu_short k B8 a (src.Imm n) = short (0x80 ∷ []) k a (n ∷ []) (lit≤ tt) (lit≤ tt)
alu_short k B16 a (src.Imm n) = one_of (fits_extended B16 n) _ _ (short (0x66 ∷ 0x83 ∷ []) k a ((n % 256) ∷ []) (lit≤ tt) (lit≤ tt)) (short (0x66 ∷ 0x81 ∷ []) k a (two n) (lit≤ tt) (lit≤ tt))
alu_short k B32 a (src.Imm n) = one_of (fits_extended B32 n) _ _ (short (0x83 ∷ []) k a ((n % 256) ∷ []) (lit≤ tt) (lit≤ tt)) (short (0x81 ∷ []) k a (four n) (lit≤ tt) (lit≤ tt))

test_short : (w : Width) (a : Rm) (s : Src) → length (test_bytes w a s) ≤ 15
test_short w a (src.Rm (Reg r)) = short_operand (pair w 0x84) r a (pair_len w 0x84)
test_short w a (src.Rm (Mem b)) = lit≤ tt
test_short w a (src.Imm n) = short (pair w 0xF6) 0 a (imm w n) (pair_len w 0xF6) (imm_len w n)

mov_short : (w : Width) (a : Rm) (s : Src) → length (mov_bytes w a s) ≤ 15
mov_short w a (src.Rm (Reg r)) = short_operand (pair w 0x88) r a (pair_len w 0x88)
mov_short w (Reg r) (src.Rm (Mem b)) = short_operand (pair w 0x8A) r (Mem b) (pair_len w 0x8A)
mov_short w (Mem a) (src.Rm (Mem b)) = lit≤ tt
mov_short B8 (Reg r) (src.Imm n) = lit≤ tt
mov_short B16 (Reg r) (src.Imm n) = lit≤ tt
mov_short B32 (Reg r) (src.Imm n) = lit≤ tt
mov_short w (Mem a) (src.Imm n) = short (pair w 0xC6) 0 (Mem a) (imm w n) (pair_len w 0xC6) (imm_len w n)

step_short : (o g : ℕ) (w : Width) (a : Rm) → length (step_bytes o g w a) ≤ 15
step_short o g B16 (Reg r) = lit≤ tt
step_short o g B32 (Reg r) = lit≤ tt
step_short o g B8 (Reg r) = lit≤ tt
step_short o g w (Mem a) = short_operand (pair w 0xFE) g (Mem a) (pair_len w 0xFE)

push_short : (s : Src) → length (push_bytes s) ≤ 15
push_short (src.Rm (Reg r)) = lit≤ tt
push_short (src.Rm (Mem a)) = short_operand (0xFF ∷ []) 6 (Mem a) (lit≤ tt)
push_short (src.Imm n) = one_of (fits_byte n) _ _ (lit≤ tt) (lit≤ tt)

pop_short : (a : Rm) → length (pop_bytes a) ≤ 15
pop_short (Reg r) = lit≤ tt
pop_short (Mem a) = short_operand (0x8F ∷ []) 0 (Mem a) (lit≤ tt)

imul_short : (g : ℕ) (a : Rm) (k : Option ℕ) → length (imul_bytes g a k) ≤ 15
imul_short g a None = short_operand (0x0F ∷ 0xAF ∷ []) g a (lit≤ tt)
imul_short g a (Some n) = one_of (fits_byte n) _ _ (short (0x6B ∷ []) g a ((n % 256) ∷ []) (lit≤ tt) (lit≤ tt)) (short (0x69 ∷ []) g a (four n) (lit≤ tt) (lit≤ tt))

shift_short : (op : ShiftOp) (w : Width) (a : Rm) (k : Count) → length (shift_bytes op w a k) ≤ 15
shift_short op w a (count.Imm n) = one_of (n == 1) _ _ (short_operand (pair w 0xD0) (shift_reg op) a (pair_len w 0xD0)) (short (pair w 0xC0) (shift_reg op) a (n ∷ []) (pair_len w 0xC0) (lit≤ tt))
shift_short op w a count.Cl = short_operand (pair w 0xD2) (shift_reg op) a (pair_len w 0xD2)

rotate_short : (right : Bool) (a : Rm) (k : Count) → length (rotate_bytes right a k) ≤ 15
rotate_short right a (count.Imm n) = one_of (n == 1) _ _ (short_operand (0xD1 ∷ []) (rotate_reg right) a (lit≤ tt)) (short (0xC1 ∷ []) (rotate_reg right) a (n ∷ []) (lit≤ tt) (lit≤ tt))
rotate_short right a count.Cl = short_operand (0xD3 ∷ []) (rotate_reg right) a (lit≤ tt)

size_short : (w : Width) (o : ℕ) (g : ℕ) (a : Rm) → length (size w ++ o ∷ operand_bytes g a) ≤ 15
size_short B8 o g a = short_operand (o ∷ []) g a (lit≤ tt)
size_short B16 o g a = short_operand (0x66 ∷ o ∷ []) g a (lit≤ tt)
size_short B32 o g a = short_operand (o ∷ []) g a (lit≤ tt)

size_short_two : (w : Width) (o : ℕ) (g : ℕ) (a : Rm) → length (size w ++ 0x0F ∷ o ∷ operand_bytes g a) ≤ 15
size_short_two B8 o g a = short_operand (0x0F ∷ o ∷ []) g a (lit≤ tt)
size_short_two B16 o g a = short_operand (0x66 ∷ 0x0F ∷ o ∷ []) g a (lit≤ tt)
size_short_two B32 o g a = short_operand (0x0F ∷ o ∷ []) g a (lit≤ tt)

extend_short : (signed : Bool) (from to : Width) (g : ℕ) (a : Rm) → length (extend_bytes signed from to g a) ≤ 15
extend_short false B8 w g a = size_short_two w 0xB6 g a
extend_short true B8 w g a = size_short_two w 0xBE g a
extend_short false _ w g a = short_operand (0x0F ∷ 0xB7 ∷ []) g a (lit≤ tt)
extend_short true _ w g a = short_operand (0x0F ∷ 0xBF ∷ []) g a (lit≤ tt)

string_short : (o : ℕ) (w : Width) (rep : Bool) → length (string_bytes o w rep) ≤ 15
string_short o B8 false = lit≤ tt
string_short o B16 false = lit≤ tt
string_short o B32 false = lit≤ tt
string_short o B8 true = lit≤ tt
string_short o B16 true = lit≤ tt
string_short o B32 true = lit≤ tt

pub canonical_short : (i : Inst) → length (canonical i) ≤ 15
canonical_short (inst.Alu k w a s) = alu_short k w a s
canonical_short (inst.Test w a s) = test_short w a s
canonical_short (inst.Mov w a s) = mov_short w a s
canonical_short (inst.Lea w g a) = size_short w 0x8D g (Mem a)
canonical_short (inst.Xchg w a g) = short_operand (pair w 0x86) g a (pair_len w 0x86)
canonical_short (inst.Inc w a) = step_short 0x40 0 w a
canonical_short (inst.Dec w a) = step_short 0x48 1 w a
canonical_short (inst.Not w a) = short_operand (pair w 0xF6) 2 a (pair_len w 0xF6)
canonical_short (inst.Neg w a) = short_operand (pair w 0xF6) 3 a (pair_len w 0xF6)
canonical_short (inst.Push s) = push_short s
canonical_short (inst.Pop a) = pop_short a
canonical_short (inst.MulDiv k a) = short_operand (0xF7 ∷ []) k a (lit≤ tt)
canonical_short (inst.Imul g a k) = imul_short g a k
canonical_short (inst.Shift op w a k) = shift_short op w a k
canonical_short (inst.Rotate right a k) = rotate_short right a k
canonical_short (inst.Extend signed from to g a) = extend_short signed from to g a
canonical_short (inst.Setcc c a) = short_operand (0x0F ∷ (0x90 + c) ∷ []) 0 a (lit≤ tt)
canonical_short (inst.Cmov c g a) = short_operand (0x0F ∷ (0x40 + c) ∷ []) g a (lit≤ tt)
canonical_short (inst.JmpRm a) = short_operand (0xFF ∷ []) 4 a (lit≤ tt)
canonical_short (inst.CallRm a) = short_operand (0xFF ∷ []) 2 a (lit≤ tt)
canonical_short (inst.Ret n) = one_of (n == 0) _ _ (lit≤ tt) (lit≤ tt)
canonical_short (inst.Movs w rep) = string_short 0xA4 w rep
canonical_short (inst.Stos w rep) = string_short 0xAA w rep
canonical_short _ = lit≤ tt

pub canonical_spells : (i : Inst) → valid_of i ≡ true → Spells (canonical i) i
canonical_spells i v = record { row = canonical_row i v; short = canonical_short i }
