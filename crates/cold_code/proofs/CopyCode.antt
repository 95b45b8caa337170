-- Copies can be linked.
use Rattle.std.proofs.Common.{◌≡◌, ℕ, zero, suc, ◌+◌, ◌-◌, ◌*◌, ◌^◌, ◌<◌, ◌≤◌, Bool, true, false, List, [], ◌∷◌, ◌++◌, map, take, drop, length, Option, Some, None, refl, sym, subst, ap, ◌∙◌, arith, ⊎_elim}
use Rattle.std.specs.Prelude.{◌==◌, ◌&&◌, IsTrue, All, nat_lt, if◌then◌else◌}
use Rattle.std.proofs.lemmas.Bool.{cases_Bool, lt-ltb, ltb-true}
use Rattle.std.proofs.lemmas.List.{length-take}
use Rattle.std.proofs.lemmas.List.Elements.{All-drop, All-tail}
use Rattle.br_word.specs.Memory.{AreBytes, HoldBytes}
use Rattle.elf_read.specs.declared.exe.Exe.{Exe}
use Rattle.elf_read.specs.declared.exe.Segment.{Segment}
use Rattle.elf_read.specs.Elf.{in_segment, is_exec}
use Rattle.elf_read.specs.Code.{segment_bytes, code_at}
use Rattle.elf_read.specs.Regions.{region_of}
use Rattle.ia_inst.specs.declared.inst.Rm.{Rm}
use Rattle.ia_inst.specs.declared.inst.Rm.TheVariants as rm
use Rattle.ia_inst.specs.declared.inst.Src.TheVariants as src
use Rattle.ia_inst.specs.declared.inst.Inst.{Inst}
use Rattle.ia_inst.specs.declared.inst.Inst.TheVariants.{Mov, Push, Pop, Lea, Jcc, Jmp, JmpRm, Call, CallRm, Ret, Cld, Std}
use Rattle.ia_inst.specs.declared.inst.Kind.{Kind}
use Rattle.ia_inst.specs.declared.inst.Kind.TheVariants as kinds
use Rattle.ia_inst.specs.Kinds.{kind_of}
use Rattle.ia_inst.specs.Canonical.{valid_of, rm_valid}
use Rattle.ia_inst.specs.Instructions.{decode_of}
use Rattle.ia_inst.specs.Meaning.{wrap}
use Rattle.ia_inst.specs.Step.{Found, NoCode, NoInst, There, found_from}
use Rattle.br_word.specs.declared.types.Width.TheVariants.{B32}
use Rattle.ia_encode.specs.declared.item.Dest.TheVariants as dests
use Rattle.ia_encode.specs.declared.item.Item.{Item}
use Rattle.ia_encode.specs.declared.item.Item.TheVariants as item
use Rattle.par_moves.specs.declared.locations.Place.TheVariants.{Slot}
use Rattle.par_moves.specs.Locations.{rm_of}
use Rattle.fall_stubs.specs.Exchange.{slot_from_reg, reg_from_slot}
use Rattle.block_cut.specs.Places.{Placed, found_at, inst_found}
use Rattle.cold_code.specs.Copies.{Around, part, to_turn, push_next, aim, pop_more, pop_to_slot, either_items, end_by, df_items, own_items, copy_of}
use Rattle.cold_code.specs.Linkable.{AreLinkable, CopiesAreLinkable}
use Rattle.cold_code.proofs.Walking.{to_come, whole_copy, none_come, full_come, plain_comes, island_comes, transfer_ends}
use Rattle.cold_code.proofs.PartCode.{NoLabel, Part, nothing, at_most, with_labels_of, part_as, behind, inst_then, jump_then, label_then, first_true, closing_part}

-- ---- what is read of an executable

code_bytes : (at : ℕ) (ss : List Segment) → HoldBytes (map region_of ss) → AreBytes (code_at at ss)
code_bytes at [] h = λ k d l. absurd (omega (arith, l))
code_bytes at (s ∷ ss) h = ⊎_elim
    (λ (e : (s.perms.exec && in_segment at s) ≡ true).
    subst AreBytes (sym (ap (λ b. if b then drop (at - s.start) (segment_bytes s) else code_at at ss) e)) (All-drop (λ b. b < 256) (at - s.start) (segment_bytes s) (h 0 (region_of s) (omega arith))))
    (λ (e : (s.perms.exec && in_segment at s) ≡ false).
    subst AreBytes (sym (ap (λ b. if b then drop (at - s.start) (segment_bytes s) else code_at at ss) e)) (code_bytes at ss (All-tail (λ r. AreBytes r.bytes) (region_of s) (map region_of ss) h)))
    (cases_Bool (s.perms.exec && in_segment at s))

again : (o : Option (Inst × ℕ)) → inst_found (found_from o) ≡ o
again None = refl
again (Some j) = refl

found_code : (exe : Exe) (at : ℕ) (i : Inst) (n : ℕ) → found_at exe at ≡ There i n → ◌≡◌ {A = Option (Inst × ℕ)} (decode_of (code_at at exe.segments)) (Some (i, n))
unfolding found_at
found_code exe at i n e = decide (is_exec at exe.segments) e
  where
    decide : (b : Bool) → (if b then found_from (decode_of (code_at at exe.segments)) else NoCode) ≡ There i n → ◌≡◌ {A = Option (Inst × ℕ)} (decode_of (code_at at exe.segments)) (Some (i, n))
    decide true e = sym (again (decode_of (code_at at exe.segments))) ∙ ap inst_found e
    decide false e = let h : ◌≡◌ {A = Option (Inst × ℕ)} None (Some (i, n)) = ap inst_found e in absurd (cc)

-- ---- ends

-- the only label of a copy
abbrev pub Own : ℕ → Type 0
Own l = l ≡ 1

plain : (is : List Item) (n : ℕ) → Part NoLabel is n → Part Own is n
plain is n p = with_labels_of NoLabel Own is n (λ l x. absurd x) p

low_number : (x n : ℕ) → n ≤ 4294967296 → x < n → nat_lt x 4294967296 ≡ true
low_number x n a b = lt-ltb x 4294967296 (omega (arith, a, b))

module _ (a : Around) where
  way : (y : ℕ) → Part NoLabel (part a y) 107
  way y = by (a.is_start y)
    where
      by : (b : Bool) → Part NoLabel (part (record { is_start = λ z. b; is_cold = a.is_cold; to = a.to }) y) 107
      by true = closing_part (dests.Block y)
      by false = at_most NoLabel (item.Jump None (if a.is_cold y then a.to y else dests.Original y) ∷ []) 6 107 (omega arith) (jump_then NoLabel None (if a.is_cold y then a.to y else dests.Original y) [] 0 tt (nothing NoLabel))

  pushed : (next : ℕ) (js : List Item) (n : ℕ) → next < 2 ^ 32 → Part NoLabel js n → Part NoLabel (push_next next ∷ js) (15 + n)
  pushed next js n l p = inst_then NoLabel (Push (src.Imm next)) js n (low_number next (2 ^ 32) (omega arith) l) p

  aimed : (target : Rm) → IsTrue (rm_valid target) → Part NoLabel (aim target) 60
  aimed (rm.Reg r) v = at_most NoLabel (aim (rm.Reg r)) 15 60 (omega arith) (inst_then NoLabel (slot_from_reg 15 r) [] 0 v (nothing NoLabel))
  aimed (rm.Mem m) v =
      inst_then NoLabel (slot_from_reg 16 0) (item.Inst (Mov B32 (rm.Reg 0) (src.Rm (rm.Mem m))) ∷ item.Inst (slot_from_reg 15 0) ∷ item.Inst (reg_from_slot 0 16) ∷ []) 45 refl
      (inst_then NoLabel (Mov B32 (rm.Reg 0) (src.Rm (rm.Mem m))) (item.Inst (slot_from_reg 15 0) ∷ item.Inst (reg_from_slot 0 16) ∷ []) 30 v
      (inst_then NoLabel (slot_from_reg 15 0) (item.Inst (reg_from_slot 0 16) ∷ []) 15 refl
      (inst_then NoLabel (reg_from_slot 0 16) [] 0 refl (nothing NoLabel))))

  dropped : (pop : ℕ) → pop < 65536 → Part NoLabel (pop_more pop) 15
  dropped pop l = go (pop == 0)
    where
      go : (b : Bool) → Part NoLabel (if b then [] else (item.Inst (Lea B32 4 (record { base = Some 4; index = None; disp = pop })) ∷ [])) 15
      go true = at_most NoLabel [] 0 15 (omega arith) (nothing NoLabel)
      go false = inst_then NoLabel (Lea B32 4 (record { base = Some 4; index = None; disp = pop })) [] 0 (low_number pop 65536 (omega arith) l) (nothing NoLabel)

  either : (cond taken next : ℕ) → cond < 16 → Part Own (either_items a cond taken next) 240
  either cond taken next c =
      at_most Own (either_items a cond taken next) (6 + (107 + 107)) 240 (omega arith)
      (jump_then Own (Some cond) (dests.Label 1) (part a next ++ (item.Label 1 ∷ part a taken)) (107 + 107) c
      (behind Own (part a next) (item.Label 1 ∷ part a taken) 107 107 (way next)
      (label_then NoLabel Own 1 (part a taken) 107 (λ x. x) refl (λ l x. absurd x) (way taken))))

  turned : Part NoLabel (to_turn a) 107
  turned = closing_part (a.to 0)

  end_part : (i : Inst) (next : ℕ) → next < 2 ^ 32 → IsTrue (valid_of i) → Part Own (end_by a i next) 240
  end_part (Jcc c rel) next l v = either c (wrap (next + rel)) next (ltb-true c 16 (first_true (nat_lt c 16) (nat_lt rel 4294967296) v))
  end_part (Jmp rel) next l v = at_most Own (part a (wrap (next + rel))) 107 240 (omega arith) (plain (part a (wrap (next + rel))) 107 (way (wrap (next + rel))))
  end_part (Call rel) next l v =
      let all = push_next next ∷ part a (wrap (next + rel)) in
      at_most Own all 122 240 (omega arith) (plain all 122 (pushed next (part a (wrap (next + rel))) 107 l (way (wrap (next + rel)))))
  end_part (JmpRm m) next l v =
      let all = aim m ++ to_turn a in
      at_most Own all 167 240 (omega arith) (plain all 167 (behind NoLabel (aim m) (to_turn a) 60 107 (aimed m v) turned))
  end_part (CallRm m) next l v =
      let all = aim m ++ (push_next next ∷ to_turn a) in
      at_most Own all 182 240 (omega arith) (plain all 182 (behind NoLabel (aim m) (push_next next ∷ to_turn a) 60 122 (aimed m v) (pushed next (to_turn a) 107 l turned)))
  end_part (Ret pop) next l v =
      let rest = pop_more pop ++ to_turn a in
      at_most Own (pop_to_slot ∷ rest) 137 240 (omega arith)
      (plain (pop_to_slot ∷ rest) 137 (inst_then NoLabel (Pop (rm_of (Slot 15))) rest 122 refl (behind NoLabel (pop_more pop) (to_turn a) 15 107 (dropped pop (ltb-true pop 65536 v)) turned)))
  end_part _ next l v = at_most Own [] 0 240 (omega arith) (nothing Own)

-- ---- a copy

df_part : (i : Inst) → Part NoLabel (df_items i) 10
df_part Cld = record { valid = (refl, tt); distinct = tt; labels = tt; size = omega arith }
df_part Std = record { valid = (refl, tt); distinct = tt; labels = tt; size = omega arith }
df_part _ = at_most NoLabel [] 0 10 (omega arith) (nothing NoLabel)

bytes_part : (bs : List ℕ) → Part NoLabel (map item.Byte bs) (length bs)
bytes_part [] = nothing NoLabel
bytes_part (b ∷ bs) = let p = bytes_part bs in record { valid = p.valid; distinct = p.distinct; labels = p.labels; size = omega (arith, p.size) }

own_part : (exe : Exe) (p : Placed) → p.size ≤ 15 → Part NoLabel (own_items exe p) 25
own_part exe p l =
    let bs = take p.size (code_at p.at exe.segments) in
    let n = length-take p.size (code_at p.at exe.segments) in
    at_most NoLabel (own_items exe p) (length bs + 10) 25 (omega (arith, n, l)) (behind NoLabel (map item.Byte bs) (df_items p.inst) (length bs) 10 (bytes_part bs) (df_part p.inst))

-- with room for so many instructions from an address on
abbrev pub Room : Exe → Around → ℕ → ℕ → Type 0
Room exe a room at = Part Own (to_come exe a room at) (25 * room + 240)

module _ (exe : Exe) (a : Around) where
  pub none_room : (room at : ℕ) → 0 < room → None ≡ inst_found (found_at exe at) → Room exe a room at
  none_room room at l e =
      let jump = item.Jump None (dests.Original at) ∷ [] in
      part_as Own (to_come exe a room at) jump (25 * room + 240) (none_come exe a room at l e)
      (at_most Own jump 6 (25 * room + 240) (omega (arith, l)) (jump_then Own None (dests.Original at) [] 0 tt (nothing Own)))

  pub full_room : (room at : ℕ) → room ≡ 0 → Room exe a room at
  full_room room at e =
      part_as Own (to_come exe a room at) (part a at) (25 * room + 240) (full_come exe a room at e)
      (at_most Own (part a at) 107 (25 * room + 240) (omega arith) (plain (part a at) 107 (way a at)))

  pub own_room : (room less at n : ℕ) (i : Inst) → room ≡ suc less → n ≤ 15
      → to_come exe a room at ≡ own_items exe (record { at = at; inst = i; size = n }) ++ to_come exe a less (at + n)
      → Room exe a less (at + n) → Room exe a room at
  own_room room less at n i e l same rest =
      let own = own_items exe (record { at = at; inst = i; size = n }) in
      part_as Own (to_come exe a room at) (own ++ to_come exe a less (at + n)) (25 * room + 240) same
      (at_most Own (own ++ to_come exe a less (at + n)) (25 + (25 * less + 240)) (25 * room + 240) (omega (arith, e))
      (behind Own own (to_come exe a less (at + n)) 25 (25 * less + 240) (own_part exe (record { at = at; inst = i; size = n }) l) rest))

  pub last_room : (room at next : ℕ) (i : Inst) → 0 < room → next < 2 ^ 32 → IsTrue (valid_of i) → to_come exe a room at ≡ end_by a i next → Room exe a room at
  last_room room at next i l low valid same =
      part_as Own (to_come exe a room at) (end_by a i next) (25 * room + 240) same
      (at_most Own (end_by a i next) 240 (25 * room + 240) (omega arith) (end_part a i next low valid))

  pub room_linkable : (room x : ℕ) → room ≡ 64 → Room exe a room x → AreLinkable (copy_of exe a x) 2048
  room_linkable room x e r =
      let p = part_as Own (copy_of exe a x) (to_come exe a room x) (25 * room + 240) (whole_copy exe a x room e) r in
      record { valid = p.valid; distinct = p.distinct; size = omega (arith, p.size, e) }

module _ (lengths : (bs : List ℕ) (i : Inst) (n : ℕ) → decode_of bs ≡ Some (i, n) → (1 ≤ n) × (n ≤ 15) × (n ≤ length bs))
    (valid : (bs : List ℕ) (i : Inst) (n : ℕ) → All (λ b. b < 256) bs → decode_of bs ≡ Some (i, n) → IsTrue (valid_of i))
    (exe : Exe) (a : Around) (bytes : HoldBytes (map region_of exe.segments)) where
  module _ (less at : ℕ) (rest : (to : ℕ) → Room exe a less to) where
    some : (i : Inst) (n : ℕ) → found_at exe at ≡ There i n → Room exe a (suc less) at
    some i n e = by (kind_of i) refl
      where
        code : ◌≡◌ {A = Option (Inst × ℕ)} (decode_of (code_at at exe.segments)) (Some (i, n))
        code = found_code exe at i n e

        is : Some (i, n) ≡ inst_found (found_at exe at)
        is = sym (ap inst_found e)

        copied : to_come exe a (suc less) at ≡ own_items exe (record { at = at; inst = i; size = n }) ++ to_come exe a less (at + n) → Room exe a (suc less) at
        copied same = own_room exe a (suc less) less at n i refl (lengths (code_at at exe.segments) i n code).1 same (rest (at + n))

        wrapped : (x : ℕ) → wrap x < 2 ^ 32
        wrapped x = omega arith

        by : (k : Kind) → kind_of i ≡ k → Room exe a (suc less) at
        by kinds.Plain k = copied (plain_comes exe a (suc less) less at refl i n is k)
        by kinds.Island k = copied (island_comes exe a (suc less) less at refl i n is k)
        by kinds.Transfer k =
            last_room exe a (suc less) at (wrap (at + n)) i (omega arith) (wrapped (at + n))
            (valid (code_at at exe.segments) i n (code_bytes at exe.segments bytes) code) (transfer_ends exe a (suc less) less at refl i n is k)

    more : (f : Found) → found_at exe at ≡ f → Room exe a (suc less) at
    more NoCode e = none_room exe a (suc less) at (omega arith) (sym (ap inst_found e))
    more NoInst e = none_room exe a (suc less) at (omega arith) (sym (ap inst_found e))
    more (There i n) e = some i n e

  whole : (room at : ℕ) → Room exe a room at
  whole zero at = full_room exe a 0 at refl
  whole (suc less) at = more less at (whole less) (found_at exe at) refl

pub copies_linkable : ((bs : List ℕ) (i : Inst) (n : ℕ) → decode_of bs ≡ Some (i, n) → (1 ≤ n) × (n ≤ 15) × (n ≤ length bs))
    → ((bs : List ℕ) (i : Inst) (n : ℕ) → All (λ b. b < 256) bs → decode_of bs ≡ Some (i, n) → IsTrue (valid_of i))
    → CopiesAreLinkable
copies_linkable lengths valid exe a x bytes = room_linkable exe a 64 x refl (whole lengths valid exe a bytes 64 x)
