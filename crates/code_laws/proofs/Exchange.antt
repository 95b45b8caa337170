-- The exchange of state, in cells.
use Rattle.std.proofs.Common.{◌≡◌, ℕ, zero, suc, ◌+◌, ◌*◌, ◌/◌, ◌%◌, ◌^◌, ◌<◌, ◌≤◌, Bool, true, false, List, [], ◌∷◌, ◌++◌, drop, map, refl, sym, ap, ◌∙◌, subst, arith, nat_eq, if◌then◌else◌, bit_and, bit_or, mod-eq_of_lt, inl, inr, ◌⊎◌}
use Rattle.std.specs.Prelude.{◌==◌, pos, ◌+ℤ◌}
use Rattle.std.proofs.lemmas.Bool.{cases_Bool, ne_eqb, eq-eqb, eqb-true}
use Rattle.std.proofs.lemmas.Grind.{common_steps}
use Rattle.std.proofs.lemmas.Nat.{or_comm, or_shifted}
use Rattle.br_word.specs.declared.types.ShiftOp.TheVariants.{Shl}
use Rattle.br_word.specs.Words.{bit, out_of_range, signed}
use Rattle.ia_inst.specs.declared.inst.Count.TheVariants as count
use Rattle.par_moves.specs.declared.locations.Place.TheVariants.{Reg, Slot}
use Rattle.par_moves.specs.declared.locations.MoveSource.TheVariants.{Place as Held}
use Rattle.par_moves.specs.Locations.{same_place as place_eq}
use Rattle.code_laws.specs.Exchange.{Homes, FlagsHeld, Besides, Captured, Restored}
use Rattle.par_moves.specs.Homes.{home_in, NoRegister, NoSlot, AreHomes}
use Rattle.fall_stubs.specs.Exchange.{reg_from_slot, slot_from_reg, capture_code, spill_code, restore_start, restore_rest}
use Rattle.code_laws.specs.Seen.{Cells}
use Rattle.code_laws.proofs.Ops.{Op, OMov, OAlu, OAdd8, OTest, OShift, OSetcc, OCld, OStd, OSahf, inst, acts, celled, Fits, AllFit, overflow, below, equal, sign, parity}

-- ---- the operations

abbrev to_slot : ℕ → ℕ → Op
to_slot k r = OMov (Slot k) (Held (Reg r))

abbrev to_reg : ℕ → ℕ → Op
to_reg r k = OMov (Reg r) (Held (Slot k))

abbrev pub capture_ops : List Op
capture_ops =
    to_slot 0 0 ∷ to_slot 1 1 ∷ to_slot 2 2 ∷ to_slot 3 3 ∷ to_slot 4 4 ∷ to_slot 5 5 ∷ to_slot 6 6 ∷ to_slot 7 7
    ∷ OSetcc 2 (Slot 8) ∷ OSetcc 10 (Slot 9) ∷ OSetcc 4 (Slot 10) ∷ OSetcc 8 (Slot 11) ∷ OSetcc 0 (Slot 12) ∷ []

abbrev pub fetch_ops : Homes → List Op
fetch_ops [] = []
fetch_ops (p ∷ ps) = to_reg p.register p.slot ∷ fetch_ops ps

abbrev pub spill_ops : Homes → List Op
spill_ops [] = []
spill_ops (p ∷ ps) = to_slot p.slot p.register ∷ spill_ops ps

abbrev pub start_ops : List Op
start_ops = OCld ∷ OMov (Reg 0) (Held (Slot 13)) ∷ OTest ∷ []

abbrev gathered : ℕ → ℕ → List Op → List Op
gathered slot n os = OMov (Reg 1) (Held (Slot slot)) ∷ OShift Shl 1 (count.Imm n) ∷ OAlu 1 (Held (Reg 1)) ∷ os

abbrev tail_ops : List Op
tail_ops =
    OShift Shl 0 (count.Imm 8) ∷ OMov (Reg 1) (Held (Slot 12)) ∷ OAlu 1 (Held (Reg 1)) ∷ OAdd8 0x7F ∷ OSahf
    ∷ to_reg 1 1 ∷ to_reg 2 2 ∷ to_reg 3 3 ∷ to_reg 4 4 ∷ to_reg 5 5 ∷ to_reg 6 6 ∷ to_reg 7 7 ∷ to_reg 0 0 ∷ []

abbrev pub rest_ops : List Op
rest_ops = OMov (Reg 0) (Held (Slot 8)) ∷ gathered 9 2 (gathered 10 6 (gathered 11 7 tail_ops))

-- the code is theirs
pub capture_is : (homes : Homes) → map inst capture_ops ++ map inst (fetch_ops homes) ≡ capture_code homes
capture_is homes = ap (λ is. map inst capture_ops ++ is) (fetch_is homes)
  where
    fetch_is : (homes : Homes) → map inst (fetch_ops homes) ≡ map (λ p. reg_from_slot p.register p.slot) homes
    fetch_is [] = refl
    fetch_is (p ∷ ps) = ap (λ is. reg_from_slot p.register p.slot ∷ is) (fetch_is ps)

pub spill_is : (homes : Homes) → map inst (spill_ops homes) ≡ spill_code homes
spill_is [] = refl
spill_is (p ∷ ps) = ap (λ is. slot_from_reg p.slot p.register ∷ is) (spill_is ps)

pub start_is : map inst start_ops ≡ restore_start
start_is = refl

pub rest_is : map inst rest_ops ≡ restore_rest
rest_is = refl

-- ---- they fit

slot_fits : (k r : ℕ) → k < 16384 → r < 8 → Fits (to_slot k r)
slot_fits k r f g = (f, g)

reg_fits : (r k : ℕ) → r < 8 → k < 16384 → Fits (to_reg r k)
reg_fits r k f g = (f, g)

pub capture_fits : AllFit capture_ops
capture_fits = (
  slot_fits 0 0 (omega arith) (omega arith),
  (
    slot_fits 1 1 (omega arith) (omega arith),
    (
      slot_fits 2 2 (omega arith) (omega arith),
      (
        slot_fits 3 3 (omega arith) (omega arith),
        (
          slot_fits 4 4 (omega arith) (omega arith),
          (
            slot_fits 5 5 (omega arith) (omega arith),
            (
              slot_fits 6 6 (omega arith) (omega arith),
              (
                slot_fits 7 7 (omega arith) (omega arith),
                ((below, omega arith), ((parity, omega arith), ((equal, omega arith), ((sign, omega arith), ((overflow, omega arith), tt))))),
              ),
            ),
          ),
        ),
      ),
    ),
  ),
)

pub home_register : (r : ℕ) → ((r ≡ 3) ⊎ ((r ≡ 5) ⊎ (r ≡ 6))) → r < 8
home_register r (inl e) = omega arith
home_register r (inr (inl e)) = omega arith
home_register r (inr (inr e)) = omega arith

pub fetch_fits : (homes : Homes) → AreHomes homes → AllFit (fetch_ops homes)
fetch_fits [] h = tt
fetch_fits (p ∷ ps) h = ((home_register p.register h.0, omega (arith, h.1)), fetch_fits ps h.4)

pub spill_fits : (homes : Homes) → AreHomes homes → AllFit (spill_ops homes)
spill_fits [] h = tt
spill_fits (p ∷ ps) h = ((omega (arith, h.1), home_register p.register h.0), spill_fits ps h.4)

pub start_fits : AllFit start_ops
start_fits = (tt, (reg_fits 0 13 (omega arith) (omega arith), (tt, tt)))

pub std_fits : AllFit (OStd ∷ [])
std_fits = (tt, tt)

gather_fits : (slot n : ℕ) (os : List Op) → slot < 16384 → AllFit os → AllFit (gathered slot n os)
gather_fits slot n os l f = (reg_fits 1 slot (omega arith) l, (omega arith, ((refl, refl, omega arith), f)))

tail_fits : AllFit tail_ops
tail_fits = (
  omega arith,
  (
    reg_fits 1 12 (omega arith) (omega arith),
    (
      (refl, refl, omega arith),
      (
        omega arith,
        (
          tt,
          (reg_fits 1 1 (omega arith) (omega arith), (reg_fits 2 2 (omega arith) (omega arith), (reg_fits 3 3 (omega arith) (omega arith), (reg_fits 4 4 (omega arith) (omega arith), (reg_fits 5 5 (omega arith) (omega arith), (reg_fits 6 6 (omega arith) (omega arith), (reg_fits 7 7 (omega arith) (omega arith), (reg_fits 0 0 (omega arith) (omega arith), tt)))))))),
        ),
      ),
    ),
  ),
)

pub rest_fits : AllFit rest_ops
rest_fits =
    (reg_fits 0 8 (omega arith) (omega arith), gather_fits 9 2 (gathered 10 6 (gathered 11 7 tail_ops)) (omega arith) (gather_fits 10 6 (gathered 11 7 tail_ops) (omega arith) (gather_fits 11 7 tail_ops (omega arith) tail_fits)))

-- ---- CAPTURE

by_eight : (P : ℕ → Type 0) → P 0 → P 1 → P 2 → P 3 → P 4 → P 5 → P 6 → P 7 → (v : ℕ) → v < 8 → P v
by_eight P a b c d e f g h zero l = a
by_eight P a b c d e f g h (suc zero) l = b
by_eight P a b c d e f g h (suc (suc zero)) l = c
by_eight P a b c d e f g h (suc (suc (suc zero))) l = d
by_eight P a b c d e f g h (suc (suc (suc (suc zero)))) l = e
by_eight P a b c d e f g h (suc (suc (suc (suc (suc zero))))) l = f
by_eight P a b c d e f g h (suc (suc (suc (suc (suc (suc zero)))))) l = g
by_eight P a b c d e f g h (suc (suc (suc (suc (suc (suc (suc zero))))))) l = h
by_eight P a b c d e f g h (suc (suc (suc (suc (suc (suc (suc (suc n)))))))) l = absurd (omega arith)

-- what the last moves of CAPTURE keep
record Fetched (homes : Homes) (a b : Cells) : Type 0 where
  slots : (k : ℕ) → b.cell (Slot k) ≡ a.cell (Slot k)
  kept : (r : ℕ) → NoRegister r homes → b.cell (Reg r) ≡ a.cell (Reg r)
  flags : b.flags ≡ a.flags
  marks : b.marks ≡ a.marks
  df : b.df ≡ a.df
  besides : Besides a b

fetched : (homes : Homes) (a : Cells) (cs : List ℕ) → Fetched homes a (acts (fetch_ops homes) a cs)
fetched [] a cs = record { slots = λ k. refl; kept = λ r n. refl; flags = refl; marks = refl; df = refl; besides = record { outer = refl; seen = refl; brk_start = refl; brk = refl } }
fetched (p ∷ ps) a cs =
    let f = fetched ps (celled a (Reg p.register) (a.cell (Slot p.slot))) (drop 1 cs) in
    record {
      slots = f.slots;
      kept = λ r n. f.kept r n.1 ∙ rw (n.0);
      flags = f.flags;
      marks = f.marks;
      df = f.df;
      besides = record { outer = f.besides.outer; seen = f.besides.seen; brk_start = f.besides.brk_start; brk = f.besides.brk };
    }

-- each home has its slot's value
fetched_home : (homes : Homes) (a : Cells) (cs : List ℕ) → AreHomes homes → (v : ℕ) → (acts (fetch_ops homes) a cs).cell (home_in homes v) ≡ a.cell (Slot v)
fetched_home [] a cs h v = refl
fetched_home (p ∷ ps) a cs h v = either (fetched_home ps b (drop 1 cs) h.4 v) (cases_Bool (nat_eq p.slot v))
  where
    b : Cells
    b = celled a (Reg p.register) (a.cell (Slot p.slot))

    either : (acts (fetch_ops ps) b (drop 1 cs)).cell (home_in ps v) ≡ b.cell (Slot v) → ((nat_eq p.slot v ≡ true) ⊎ (nat_eq p.slot v ≡ false)) → (acts (fetch_ops ps) b (drop 1 cs)).cell (if nat_eq p.slot v then Reg p.register else home_in ps v) ≡ a.cell (Slot v)
    either ih (inl e) = rw e ((fetched ps b (drop 1 cs)).kept p.register h.2 ∙ rw (eq-eqb p.register p.register refl) (ap (λ k. a.cell (Slot k)) (eqb-true p.slot v e)))
    either ih (inr e) = rw e ih

low_only : (x f : ℕ) → x < 2 → x / 256 * 256 + f ≡ f
low_only x f h = omega arith

record Stored (a b : Cells) : Type 0 where
  registers : (v : ℕ) → v < 8 → b.cell (Slot v) ≡ a.cell (Reg v)
  cf : b.cell (Slot 8) ≡ bit a.flags.cf
  pf : b.cell (Slot 9) ≡ bit a.flags.pf
  zf : b.cell (Slot 10) ≡ bit a.flags.zf
  sf : b.cell (Slot 11) ≡ bit a.flags.sf
  of : b.cell (Slot 12) ≡ bit a.flags.of
  others : (k : ℕ) → 13 ≤ k → b.cell (Slot k) ≡ a.cell (Slot k)

stored : (a : Cells) (cs : List ℕ) → FlagsHeld a → Stored a (acts capture_ops a cs)
stored a cs h = record {
  registers = by_eight (λ v. (acts capture_ops a cs).cell (Slot v) ≡ a.cell (Reg v)) refl refl refl refl refl refl refl refl;
  cf = low_only _ _ h.cf;
  pf = low_only _ _ h.pf;
  zf = low_only _ _ h.zf;
  sf = low_only _ _ h.sf;
  of = low_only _ _ h.of;
  others = λ k l. simp (ne_eqb k 0 (omega arith), ne_eqb k 1 (omega arith), ne_eqb k 2 (omega arith), ne_eqb k 3 (omega arith), ne_eqb k 4 (omega arith), ne_eqb k 5 (omega arith), ne_eqb k 6 (omega arith), ne_eqb k 7 (omega arith), ne_eqb k 8 (omega arith), ne_eqb k 9 (omega arith), ne_eqb k 10 (omega arith), ne_eqb k 11 (omega arith), ne_eqb k 12 (omega arith));
}

pub captures : (homes : Homes) (a : Cells) (cs ds : List ℕ) → AreHomes homes → FlagsHeld a → Captured homes a (acts (fetch_ops homes) (acts capture_ops a cs) ds)
captures homes a cs ds hs h =
    let b = acts capture_ops a cs in
    let s = stored a cs h in
    let f = fetched homes b ds in
    record {
      registers = λ v l. f.slots v ∙ s.registers v l;
      homed = λ v l. fetched_home homes b ds hs v ∙ s.registers v l;
      cf = f.slots 8 ∙ s.cf;
      pf = f.slots 9 ∙ s.pf;
      zf = f.slots 10 ∙ s.zf;
      sf = f.slots 11 ∙ s.sf;
      of = f.slots 12 ∙ s.of;
      others = λ k l. f.slots k ∙ s.others k l;
      kept = λ r n. f.kept r n;
      flags = f.flags;
      marks = f.marks;
      df = f.df;
      besides = record { outer = f.besides.outer; seen = f.besides.seen; brk_start = f.besides.brk_start; brk = f.besides.brk };
    }

-- ---- SPILL

-- slots have what the homes had
pub record Spilled (homes : Homes) (a b : Cells) : Type 0 where
  pub homed : (v : ℕ) → b.cell (Slot v) ≡ a.cell (home_in homes v)
  pub df : b.df ≡ a.df
  pub besides : Besides a b

-- the home is not this slot
not_slot : (homes : Homes) (k v : ℕ) → nat_eq k v ≡ false → place_eq (home_in homes v) (Slot k) ≡ false
not_slot [] k v e = ne_eqb v k (λ q. let r = eq-eqb k v (sym q) in cc)
not_slot (p ∷ ps) k v e = either (not_slot ps k v e) (nat_eq p.slot v)
  where
    either : place_eq (home_in ps v) (Slot k) ≡ false → (b : Bool) → place_eq (if b then Reg p.register else home_in ps v) (Slot k) ≡ false
    either ih true = refl
    either ih false = ih

own_slot : (homes : Homes) (v : ℕ) → NoSlot v homes → home_in homes v ≡ Slot v
own_slot [] v n = refl
own_slot (p ∷ ps) v n = rw (n.0) (own_slot ps v n.1)

pub spills : (homes : Homes) (a : Cells) (cs : List ℕ) → AreHomes homes → Spilled homes a (acts (spill_ops homes) a cs)
spills [] a cs h = record { homed = λ v. refl; df = refl; besides = record { outer = refl; seen = refl; brk_start = refl; brk = refl } }
spills (p ∷ ps) a cs h =
    let f = spills ps (celled a (Slot p.slot) (a.cell (Reg p.register))) (drop 1 cs) h.4 in
    record {
      homed = λ v. f.homed v ∙ either v (cases_Bool (nat_eq p.slot v));
      df = f.df;
      besides = record { outer = f.besides.outer; seen = f.besides.seen; brk_start = f.besides.brk_start; brk = f.besides.brk };
    }
  where
    either : (v : ℕ) → ((nat_eq p.slot v ≡ true) ⊎ (nat_eq p.slot v ≡ false)) → (celled a (Slot p.slot) (a.cell (Reg p.register))).cell (home_in ps v) ≡ a.cell (if nat_eq p.slot v then Reg p.register else home_in ps v)
    either v (inl e) =
        let q = eqb-true p.slot v e in
        let n = subst (λ k. NoSlot k ps) q h.3 in
        rw (e, own_slot ps v n, eq-eqb v p.slot (sym q)) refl
    either v (inr e) = rw (e, not_slot ps p.slot v e) refl

-- a slot from 8 on is no home
pub high_slot : (homes : Homes) → AreHomes homes → (a b : Cells) → Spilled homes a b → (k : ℕ) → 8 ≤ k → b.cell (Slot k) ≡ a.cell (Slot k)
high_slot homes hs a b sp k l = sp.homed k ∙ ap a.cell (own_slot homes k (no_slot homes hs))
  where
    no_slot : (homes : Homes) → AreHomes homes → NoSlot k homes
    no_slot [] h = tt
    no_slot (p ∷ ps) h = (ne_eqb p.slot k (λ e. omega (arith, h.1)), no_slot ps h.4)

-- ---- RESTORE

-- bits that do not meet add up
join : (a b k : ℕ) → a < 2 ^ k → b * 2 ^ k < 2 ^ 32 → bit_or a (b * 2 ^ k % 2 ^ 32) ≡ b * 2 ^ k + a
join a b k ha hb = rw (mod-eq_of_lt hb) (or_comm a (b * 2 ^ k) ∙ or_shifted b k a ha)

abbrev packed : ℕ → ℕ → ℕ → ℕ → ℕ → ℕ
packed c p z s o =
    bit_or (bit_or (bit_or (bit_or c (p * 2 ^ 2 % 2 ^ 32)) (z * 2 ^ 6 % 2 ^ 32)) (s * 2 ^ 7 % 2 ^ 32) * 2 ^ 8 % 2 ^ 32) o

packed_is : (c p z s o : ℕ) → c < 2 → p < 2 → z < 2 → s < 2 → o < 2 → packed c p z s o ≡ (s * 128 + (z * 64 + (p * 4 + c))) * 256 + o
packed_is c p z s o hc hp hz hs ho =
    let e1 = join c p 2 (omega arith) (omega arith) in
    let e2 = join (p * 2 ^ 2 + c) z 6 (omega arith) (omega arith) in
    let e3 = join (z * 2 ^ 6 + (p * 2 ^ 2 + c)) s 7 (omega arith) (omega arith) in
    let m : (s * 2 ^ 7 + (z * 2 ^ 6 + (p * 2 ^ 2 + c))) * 2 ^ 8 % 2 ^ 32 ≡ (s * 2 ^ 7 + (z * 2 ^ 6 + (p * 2 ^ 2 + c))) * 2 ^ 8 = omega arith in
    rw (e1, e2, e3, m) (or_shifted (s * 2 ^ 7 + (z * 2 ^ 6 + (p * 2 ^ 2 + c))) 8 o (omega arith))

-- what ADD leaves in eax
abbrev added : ℕ → ℕ
added w = w / 256 * 256 + (w % 256 + 0x7F + 0) % 2 ^ 8

record Bits (w c p z s o : ℕ) : Type 0 where
  cf : added w / 256 % 256 / 2 ^ 0 % 2 ≡ c
  pf : added w / 256 % 256 / 2 ^ 2 % 2 ≡ p
  zf : added w / 256 % 256 / 2 ^ 6 % 2 ≡ z
  sf : added w / 256 % 256 / 2 ^ 7 % 2 ≡ s
  of : w % 256 ≡ o

bits_of : (w c p z s o : ℕ) → c < 2 → p < 2 → z < 2 → s < 2 → o < 2 → w ≡ (s * 128 + (z * 64 + (p * 4 + c))) * 256 + o → Bits w c p z s o
bits_of w c p z s o hc hp hz hs ho e = record { cf = omega arith; pf = omega arith; zf = omega arith; sf = omega arith; of = omega arith }

packed_bits : (c p z s o : ℕ) → c < 2 → p < 2 → z < 2 → s < 2 → o < 2 → Bits (packed c p z s o) c p z s o
packed_bits c p z s o hc hp hz hs ho = bits_of (packed c p z s o) c p z s o hc hp hz hs ho (packed_is c p z s o hc hp hz hs ho)

bit_is : (x b : ℕ) → b < 2 → x ≡ b → bit (x == 1) ≡ b
bit_is x zero h e = rw e
bit_is x (suc zero) h e = rw e
bit_is x (suc (suc n)) h e = absurd (omega arith)

of_is : (x o : ℕ) → o < 2 → x ≡ o → bit (out_of_range 8 ((signed 8 x +ℤ signed 8 0x7F) +ℤ pos 0)) ≡ o
of_is x zero h e = rw e
of_is x (suc zero) h e = rw e
of_is x (suc (suc n)) h e = absurd (omega arith)

and_self : (n : ℕ) → bit_and n n ≡ n
and_self n = grind (arith, common_steps)

-- the test of slot 13 sets ZF where it is 0
pub started : (a : Cells) (cs : List ℕ) → (acts start_ops a cs).flags.zf ≡ (a.cell (Slot 13) == 0)
started a cs = ap (λ v. v == 0) (and_self (a.cell (Slot 13)))

-- d is a with other registers, flags and DF
pub restores : (a d : Cells) (cs : List ℕ) → FlagsHeld a → ((k : ℕ) → d.cell (Slot k) ≡ a.cell (Slot k)) → bit d.df ≡ a.cell (Slot 13) → Besides a d → Restored a (acts rest_ops d cs)
restores a d cs f same df besides =
    let c = subst (λ v. v < 2) (sym (same 8)) f.cf in
    let p = subst (λ v. v < 2) (sym (same 9)) f.pf in
    let z = subst (λ v. v < 2) (sym (same 10)) f.zf in
    let s = subst (λ v. v < 2) (sym (same 11)) f.sf in
    let o = subst (λ v. v < 2) (sym (same 12)) f.of in
    let b = packed_bits (d.cell (Slot 8)) (d.cell (Slot 9)) (d.cell (Slot 10)) (d.cell (Slot 11)) (d.cell (Slot 12)) c p z s o in
    record {
      registers = λ v l. by_eight (λ v. (acts rest_ops d cs).cell (Reg v) ≡ d.cell (Slot v)) refl refl refl refl refl refl refl refl v l ∙ same v;
      cf = bit_is _ _ c b.cf ∙ same 8;
      pf = bit_is _ _ p b.pf ∙ same 9;
      zf = bit_is _ _ z b.zf ∙ same 10;
      sf = bit_is _ _ s b.sf ∙ same 11;
      of = of_is _ _ o b.of ∙ same 12;
      df = df;
      marks = refl;
      slots = same;
      besides = record { outer = besides.outer; seen = besides.seen; brk_start = besides.brk_start; brk = besides.brk };
    }
