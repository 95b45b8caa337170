-- An instruction does to a state what its operation does to the cells.
use Rattle.std.proofs.Common.{◌≡◌, ℕ, ◌+◌, ◌*◌, ◌/◌, ◌%◌, ◌^◌, ◌<◌, Bool, true, false, ◌||◌, not, List, Some, None, nat_eq, if◌then◌else◌, refl, ap, ◌∙◌, arith, ⊎_elim, ◌≢◌, get_or, set, length-set, get_or-set_same, get_or-set_other, bit_and, bit_or, bit_xor}
use Rattle.std.specs.Prelude.{◌==◌, ℤ, pos, negsuc}
use Rattle.std.proofs.lemmas.Bool.{cases_eq, eq-eqb, ne_eqb, lt-ltb}
use Rattle.std.proofs.lemmas.Nat.{or_lt, xor_lt, and_le_l, shr_le}
use Rattle.br_word.specs.declared.types.ShiftOp.{ShiftOp}
use Rattle.br_word.specs.declared.types.ShiftOp.TheVariants.{Shl, Shr, Sar}
use Rattle.br_word.specs.declared.types.Width.{Width}
use Rattle.br_word.specs.declared.types.Width.TheVariants.{B8, B16, B32}
use Rattle.br_word.specs.Memory.{Region, load, store, put_over, bytes_of}
use Rattle.br_word.specs.Words as words
use Rattle.br_word.specs.Words.{bit, size_of, bits_of, signed}
use Rattle.br_word.specs.Flags.{shift_value, shift_of, add_result, sub_result}
use Rattle.br_word.specs.State.{Processor, State}
use Rattle.ia_inst.specs.declared.inst.Count.{Count}
use Rattle.ia_inst.specs.declared.inst.Count.TheVariants as count
use Rattle.ia_inst.specs.Act.{Act, Ends, Changes, Past, flags_after, marks_after, Completion, Next, perform}
use Rattle.ia_inst.specs.Meaning.{Result, meaning, alu, of_sum, of_logic, shift_changes, product_changes, flags_of_ah, product_changes, flags_of_ah, of_src, to_rm, address_of, no_changes, condition, count_of, shifted, sign_extended, reg_value}
use Rattle.ia_inst.specs.Wide.{product_overflows}
use Rattle.par_moves.specs.declared.locations.Place.{Place}
use Rattle.par_moves.specs.declared.locations.Place.TheVariants.{Reg, Slot}
use Rattle.par_moves.specs.declared.locations.MoveSource.{MoveSource as Source}
use Rattle.par_moves.specs.declared.locations.MoveSource.TheVariants.{Place as Held, Num}
use Rattle.par_moves.specs.Locations.{rm_of, src_of, slot_at, same_place as place_eq, held, InRange, IsFit}
use Rattle.code_laws.proofs.Words.{low_part}
use Rattle.code_laws.specs.Seen.{Cells, IsCode, RegsSeen, Sees}
use Rattle.code_laws.proofs.Ops.{Op, OMov, OAlu, OCmp, OAdd8, OTest, OTest8, OImul, OShift, OSext, OSetcc, OCmov, OCld, OStd, OSahf, inst, put, celled, flagged, count_in, holds, act, HasLow, IsUsed, overflow, below, equal, sign, parity, Fits, is_quiet}
use Rattle.code_laws.proofs.Memory.{load_slot, store_slot, own_word, own_byte}

-- the state goes on behind the instruction, and is then seen so
pub record Wrote (code : Region) (s : State) (n : ℕ) (e : Completion) (a : Cells) (quiet : Bool) : Type 0 where
  pub cpu : Processor
  pub regions : List Region
  pub goes : e ≡ Next cpu regions (Past n)
  pub sees : (at : ℕ) → Sees code (record s { eip = at; cpu = cpu; regions = regions }) a
  pub same : quiet ≡ true → regions ≡ s.regions

set_seen : (regs : List ℕ) (g : ℕ → ℕ) (r v : ℕ) → RegsSeen regs g → r < 8 → RegsSeen (set regs r v) (λ q. if nat_eq q r then v else g q)
set_seen regs g r v h l = record {
  count = length-set regs r v ∙ h.count;
  each = λ q lq. ⊎_elim
      (λ (e : q ≡ r). rw (e, eq-eqb r r refl) (get_or-set_same regs r v 0 (omega (arith, h.count))))
      (λ (n : q ≢ r). rw (ne_eqb q r n) (get_or-set_other regs r q v 0 n ∙ h.each q lq))
      (cases_eq q r);
}

kept_seen : (regs : List ℕ) (g : ℕ → ℕ) (r : ℕ) → RegsSeen regs g → RegsSeen regs (λ q. if nat_eq q r then g r else g q)
kept_seen regs g r h = record {
  count = h.count;
  each = λ q lq. ⊎_elim
      (λ (e : q ≡ r). rw (eq-eqb q r e) (h.each q lq ∙ ap g e))
      (λ (n : q ≢ r). rw (ne_eqb q r n) (h.each q lq))
      (cases_eq q r);
}

small_put : (f : Place → ℕ) (p : Place) (v : ℕ) → v < 2 ^ 32 → ((q : Place) → InRange q → f q < 2 ^ 32) → (q : Place) → InRange q → put p v f q < 2 ^ 32
small_put f p v l h q r = either (place_eq q p)
  where
    either : (b : Bool) → (if b then v else f q) < 2 ^ 32
    either true = l
    either false = h q r

address_is : (regs : List ℕ) (k : ℕ) → k < 16384 → address_of (record { base = None; index = None; disp = slot_at k }) regs ≡ slot_at k
address_is regs k h = omega arith

bit_small : (b : Bool) → bit b < 2
bit_small true = omega arith
bit_small false = omega arith

pub same_effect : {code : Region} {s : State} {n : ℕ} {e e' : Completion} {a : Cells} {q : Bool} → e ≡ e' → Wrote code s n e' a q → Wrote code s n e a q
same_effect p w = record { cpu = w.cpu; regions = w.regions; goes = p ∙ w.goes; sees = w.sees; same = w.same }

module _ {code : Region} (here : IsCode code) (s : State) (a : Cells) (h : Sees code s a) (n x : ℕ) where
  pub eax_is : get_or s.cpu.regs 0 0 ≡ a.cell (Reg 0)
  eax_is = h.regs.each 0 (omega arith)

  pub ecx_is : get_or s.cpu.regs 1 0 ≡ a.cell (Reg 1)
  ecx_is = h.regs.each 1 (omega arith)

  pub held_small : (v : Source) → IsFit v → held a.cell v < 2 ^ 32
  held_small (Held p) f = h.small p f
  held_small (Num v) f = f

  slot_is : (k : ℕ) → k < 16384 → load (slot_at k) 4 s.regions ≡ Some (a.cell (Slot k))
  slot_is k f = ap (load (slot_at k) 4) h.regions ∙ load_slot code h.own a.outer k here h.slots.size f ∙ ap Some (h.slots.words k f)

  -- an operand is read
  pub reads : (v : Source) → IsFit v → (go : ℕ → Act) → perform (of_src B32 (src_of v) s.cpu.regs go) x s.cpu s.regions ≡ perform (go (held a.cell v)) x s.cpu s.regions
  reads (Held (Reg r)) f go = ap (λ u. perform (go u) x s.cpu s.regions) (h.regs.each r f)
  reads (Held (Slot k)) f go = rw (address_is s.cpu.regs k f, slot_is k f)
  reads (Num v) f go = refl

  -- a condition asks for its flags
  asks : (cond : ℕ) → IsUsed cond → (go : Bool → Act) → perform (condition cond go) x s.cpu s.regions ≡ perform (go (holds cond s.cpu.flags)) x s.cpu s.regions
  asks _ overflow go = refl
  asks _ below go = refl
  asks _ equal go = refl
  asks _ sign go = refl
  asks _ parity go = refl

  -- flags alone, a register, a slot
  flags_wrote : (ch : Changes) → Wrote code s n (perform (Ends s.cpu.regs s.cpu.df ch (Past n)) x s.cpu s.regions) (flagged a ch x) true
  flags_wrote ch = record {
    cpu = _;
    regions = _;
    goes = refl;
    sees = λ at. record { own = h.own; regions = h.regions; slots = h.slots; regs = h.regs; small = h.small; flags = ap (λ f. flags_after ch f x) h.flags; marks = ap (λ f. marks_after ch f) h.marks; df = h.df; seen = h.seen; brk_start = h.brk_start; brk = h.brk; running = h.running };
    same = λ q. refl;
  }

  pub reg_wrote : (r v : ℕ) (ch : Changes) → r < 8 → v < 2 ^ 32 → Wrote code s n (perform (Ends (set s.cpu.regs r v) s.cpu.df ch (Past n)) x s.cpu s.regions) (celled (flagged a ch x) (Reg r) v) true
  reg_wrote r v ch f l = record {
    cpu = _;
    regions = _;
    goes = refl;
    sees = λ at. record { own = h.own; regions = h.regions; slots = h.slots; regs = set_seen s.cpu.regs _ r v h.regs f; small = small_put a.cell (Reg r) v l h.small; flags = ap (λ f. flags_after ch f x) h.flags; marks = ap (λ f. marks_after ch f) h.marks; df = h.df; seen = h.seen; brk_start = h.brk_start; brk = h.brk; running = h.running };
    same = λ q. refl;
  }

  slot_wrote : (k v : ℕ) → k < 16384 → v < 2 ^ 32 → Wrote code s n (perform (to_rm B32 (rm_of (Slot k)) v s.cpu.regs (λ regs. Ends regs s.cpu.df no_changes (Past n))) x s.cpu s.regions) (celled a (Slot k) v) false
  slot_wrote k v f l =
      let w = ap (store (slot_at k) 4 v) h.regions ∙ store_slot code h.own a.outer k 4 v (omega arith) (omega arith) here h.slots.size f in
      record {
        cpu = s.cpu;
        regions = _;
        goes = rw (address_is s.cpu.regs k f, w);
        sees = λ at. record { own = put_over h.own (4 * k) (bytes_of 4 v); regions = refl; slots = own_word h.own _ k v h.slots f l; regs = h.regs; small = small_put a.cell (Slot k) v l h.small; flags = h.flags; marks = h.marks; df = h.df; seen = h.seen; brk_start = h.brk_start; brk = h.brk; running = h.running };
        same = λ q. absurd (cc);
      }

  place_wrote : (p : Place) (u : Source) (v : ℕ) → InRange p → v < 2 ^ 32 → Wrote code s n (perform (to_rm B32 (rm_of p) v s.cpu.regs (λ regs. Ends regs s.cpu.df no_changes (Past n))) x s.cpu s.regions) (celled a p v) (is_quiet (OMov p u))
  place_wrote (Reg r) u v f l = reg_wrote r v no_changes f l
  place_wrote (Slot k) u v f l = slot_wrote k v f l

  -- a byte that is 0 or 1
  low_wrote : (cond : ℕ) (p : Place) (b : ℕ) → HasLow p → b < 2 → Wrote code s n (perform (to_rm B8 (rm_of p) b s.cpu.regs (λ regs. Ends regs s.cpu.df no_changes (Past n))) x s.cpu s.regions) (celled a p (a.cell p / 256 * 256 + b)) (is_quiet (OSetcc cond p))
  low_wrote cond (Reg r) b f l =
      let sm = h.small (Reg r) (omega arith) in
      same_effect (rw (lt-ltb r 4 f, h.regs.each r (omega arith))) (reg_wrote r (a.cell (Reg r) / 256 * 256 + b) no_changes (omega arith) (omega arith))
  low_wrote cond (Slot k) b f l =
      let sm = h.small (Slot k) f in
      let w = ap (store (slot_at k) 1 b) h.regions ∙ store_slot code h.own a.outer k 1 b (omega arith) (omega arith) here h.slots.size f in
      record {
        cpu = s.cpu;
        regions = _;
        goes = rw (address_is s.cpu.regs k f, w);
        sees = λ at. record { own = put_over h.own (4 * k) (bytes_of 1 b); regions = refl; slots = own_byte h.own _ k b h.slots f (omega arith); regs = h.regs; small = small_put a.cell (Slot k) (a.cell (Slot k) / 256 * 256 + b) (omega arith) h.small; flags = h.flags; marks = h.marks; df = h.df; seen = h.seen; brk_start = h.brk_start; brk = h.brk; running = h.running };
        same = λ q. absurd (cc);
      }

  cmov_wrote : (b : Bool) → Wrote code s n (perform (Ends (if not b then set s.cpu.regs 0 (a.cell (Reg 1)) else s.cpu.regs) s.cpu.df no_changes (Past n)) x s.cpu s.regions) (celled a (Reg 0) (if b then a.cell (Reg 0) else a.cell (Reg 1))) true
  cmov_wrote true = record {
    cpu = _;
    regions = _;
    goes = refl;
    sees = λ at. record { own = h.own; regions = h.regions; slots = h.slots; regs = kept_seen s.cpu.regs _ 0 h.regs; small = small_put a.cell (Reg 0) (a.cell (Reg 0)) (h.small (Reg 0) (omega arith)) h.small; flags = h.flags; marks = h.marks; df = h.df; seen = h.seen; brk_start = h.brk_start; brk = h.brk; running = h.running };
    same = λ q. refl;
  }
  cmov_wrote false = reg_wrote 0 (a.cell (Reg 1)) no_changes (omega arith) (h.small (Reg 1) (omega arith))

-- results fit 32 bits
wrap_small : (z : ℤ) → words.wrap (2 ^ 32) z < 2 ^ 32
wrap_small (pos n) = omega arith
wrap_small (negsuc n) = omega arith

shift_small : (op : ShiftOp) (v n : ℕ) → v < 2 ^ 32 → shift_value op 32 v n < 2 ^ 32
shift_small Shl v n h = omega arith
shift_small Shr v n h = omega (arith, shr_le v n)
shift_small Sar v n h = wrap_small _

shifted_small : (op : ShiftOp) (v n : ℕ) → v < 2 ^ 32 → (shifted op B32 v n).value < 2 ^ 32
shifted_small op v n h = either (n == 0)
  where
    either : (b : Bool) → (λ (r : Result). r.value < 2 ^ 32) (if b then record { value = v; changes = no_changes } else record { value = (shift_of op B32 v n).value; changes = shift_changes (shift_of op B32 v n) })
    either true = h
    either false = shift_small op v n h

alu_small : (op v u : ℕ) → v < 2 ^ 32 → u < 2 ^ 32 → (alu op B32 v u false).value < 2 ^ 32
alu_small op v u hv hu = either (op == 0 || op == 2) (op == 1) (op == 4) (op == 6)
  where
    either : (b0 b1 b4 b6 : Bool) → (λ (r : Result). r.value < 2 ^ 32) (if b0 then of_sum (add_result B32 v u false) else if b1 then of_logic B32 (bit_or v u) else if b4 then of_logic B32 (bit_and v u) else if b6 then of_logic B32 (bit_xor v u) else of_sum (sub_result B32 v u false))
    either true b1 b4 b6 = omega arith
    either false true b4 b6 = or_lt 32 v u hv hu
    either false false true b6 = omega (arith, and_le_l v u)
    either false false false true = xor_lt 32 v u hv hu
    either false false false false = omega arith

-- one instruction
module _ {code : Region} (here : IsCode code) where
  pub follows : (o : Op) (s : State) (a : Cells) (n x : ℕ) → Sees code s a → Fits o → Wrote code s n (perform (meaning (inst o) n s.cpu.regs s.eip s.cpu.df) x s.cpu s.regions) (act o a x) (is_quiet o)
  unfolding meaning
  follows (OMov p v) s a n x h f =
      same_effect (reads here s a h n x v f.1 (λ u. to_rm B32 (rm_of p) u s.cpu.regs (λ regs. Ends regs s.cpu.df no_changes (Past n)))) (place_wrote here s a h n x p v (held a.cell v) f.0 (held_small here s a h n x v f.1))
  follows (OAlu op v) s a n x h f =
      let go = λ (b : ℕ). let r = alu op B32 (get_or s.cpu.regs 0 0) b false in Ends (set s.cpu.regs 0 r.value) s.cpu.df r.changes (Past n) in
      let r = alu op B32 (a.cell (Reg 0)) (held a.cell v) false in
      same_effect (rw (f.0, f.1) (reads here s a h n x v f.2 go ∙ rw (eax_is here s a h n x))) (reg_wrote here s a h n x 0 r.value r.changes (omega arith) (alu_small op (a.cell (Reg 0)) (held a.cell v) (h.small (Reg 0) (omega arith)) (held_small here s a h n x v f.2)))
  follows (OCmp v) s a n x h f =
      same_effect (reads here s a h n x v f (λ b. Ends s.cpu.regs s.cpu.df (alu 7 B32 (get_or s.cpu.regs 0 0) b false).changes (Past n)) ∙ rw (eax_is here s a h n x)) (flags_wrote here s a h n x (alu 7 B32 (a.cell (Reg 0)) (held a.cell v) false).changes)
  follows (OAdd8 v) s a n x h f =
      let sm = h.small (Reg 0) (omega arith) in
      let r = alu 0 B8 (a.cell (Reg 0) % 256) v false in
      same_effect (rw (eax_is here s a h n x)) (reg_wrote here s a h n x 0 (a.cell (Reg 0) / 256 * 256 + r.value) r.changes (omega arith) (omega arith))
  follows OTest s a n x h f = same_effect (rw (eax_is here s a h n x)) (flags_wrote here s a h n x (of_logic B32 (bit_and (a.cell (Reg 0)) (a.cell (Reg 0)))).changes)
  follows OTest8 s a n x h f = same_effect (rw (eax_is here s a h n x)) (flags_wrote here s a h n x (of_logic B8 (bit_and (a.cell (Reg 0) % 256) (a.cell (Reg 0) % 256))).changes)
  follows OImul s a n x h f = same_effect (rw (eax_is here s a h n x, ecx_is here s a h n x)) (reg_wrote here s a h n x 0 (a.cell (Reg 0) * a.cell (Reg 1) % 2 ^ 32) (product_changes (product_overflows (a.cell (Reg 0)) (a.cell (Reg 1)))) (omega arith) (omega arith))
  follows (OShift op r c) s a n x h f =
      same_effect (rw (h.regs.each r f, count_seen c)) (let r' = shifted op B32 (a.cell (Reg r)) (count_in a.cell c) in reg_wrote here s a h n x r r'.value r'.changes f (shifted_small op (a.cell (Reg r)) (count_in a.cell c) (h.small (Reg r) f)))
    where
      count_seen : (c : Count) → count_of c s.cpu.regs ≡ count_in a.cell c
      count_seen (count.Imm k) = refl
      count_seen count.Cl = rw (ecx_is here s a h n x)
  follows (OSext w) s a n x h f =
      same_effect (rw (low_is w)) (reg_wrote here s a h n x 0 (sign_extended w B32 (low_part w (a.cell (Reg 0)))) no_changes (omega arith) (wrap_small _))
    where
      low_is : (w : Width) → reg_value w 0 s.cpu.regs ≡ low_part w (a.cell (Reg 0))
      low_is B8 = rw (eax_is here s a h n x)
      low_is B16 = rw (eax_is here s a h n x)
      low_is B32 = eax_is here s a h n x
  follows (OSetcc cond p) s a n x h f =
      same_effect (asks here s a h n x cond f.0 (λ b. to_rm B8 (rm_of p) (bit b) s.cpu.regs (λ regs. Ends regs s.cpu.df no_changes (Past n))) ∙ rw (h.flags)) (low_wrote here s a h n x cond p (bit (holds cond a.flags)) f.1 (bit_small _))
  follows OCmov s a n x h f = same_effect (rw (h.flags, ecx_is here s a h n x)) (cmov_wrote here s a h n x a.flags.zf)
  follows OCld s a n x h f = record {
    cpu = _;
    regions = _;
    goes = refl;
    sees = λ at. record { own = h.own; regions = h.regions; slots = h.slots; regs = h.regs; small = h.small; flags = h.flags; marks = h.marks; df = refl; seen = h.seen; brk_start = h.brk_start; brk = h.brk; running = h.running };
    same = λ q. refl;
  }
  follows OStd s a n x h f = record {
    cpu = _;
    regions = _;
    goes = refl;
    sees = λ at. record { own = h.own; regions = h.regions; slots = h.slots; regs = h.regs; small = h.small; flags = h.flags; marks = h.marks; df = refl; seen = h.seen; brk_start = h.brk_start; brk = h.brk; running = h.running };
    same = λ q. refl;
  }
  follows OSahf s a n x h f = same_effect (rw (eax_is here s a h n x)) (flags_wrote here s a h n x (flags_of_ah (a.cell (Reg 0) / 256 % 256)))
