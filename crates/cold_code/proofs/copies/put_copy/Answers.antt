use Rattle.std.proofs.Common.{◌≡◌, ◌+◌, ◌-◌, ◌∷◌, [], ◌++◌, None, map, take, sym, ap, ◌∙◌, inl, inr, arith}
use Rattle.std.specs.Prelude.{option_map}
use Rattle.ia_encode.specs.declared.item.Dest.TheVariants as dests
use Rattle.ia_encode.specs.declared.item.Item.TheVariants as item
use Rattle.block_cut.specs.declared.places.Spelled.{Spelled}
use Rattle.fall_stubs.proofs.Parts.{anyway, follows, goes_on}
use Rattle.cold_code.specs.Around.{around}
use Rattle.cold_code.specs.Copies.{part, end_by, df_items, own_items, copy_of}
use Rattle.cold_code.proofs.Upto.{upto_none, upto_as, upto_more, upto_ok, upto_grew, upto_same, upto_grew_part, grew_as}
use Rattle.cold_code.proofs.Walking.{to_come, whole_copy, none_come, full_come, plain_comes, island_comes, transfer_comes, own_read}
use Rattle.cold_code.proofs.CopyCode.{none_room, full_room, own_room, last_room, room_linkable}
use Rattle.cold_code.proofs.copies.put_copy.Goals as goal

pub loop-count-init : goal.loop-count-init
loop-count-init c =
    let old = c.args.p.now in
    let exe = c.args.exe.now in
    let a = around c.args.starts.now in
    let all = copy_of exe a c.args.start in
    record {
      few = omega arith;
      upto = upto_as old old all all (to_come exe a (64 - 0) c.args.start) (upto_none old all) (whole_copy exe a c.args.start (64 - 0) (omega arith));
      linkable = room_linkable exe a (64 - 0) c.args.start (omega arith);
    }

pub returns-in_default-clause-ok : goal.returns-in_default-clause-ok
returns-in_default-clause-ok c =
    let old = c.args.p.now in
    let exe = c.args.exe.now in
    let a = around c.args.starts.now in
    let all = copy_of exe a c.args.start in
    let room = 64 - c.loop-count.count in
    let found = sym (ap (option_map (λ (s : Spelled). (s.inst, s.len))) c.in_default.is) ∙ c.instruction_at.ensures.inst in
    let rest = item.Jump None (dests.Original c.loop-count.at) ∷ [] in
    let u = upto_as old c.loop-count.p all (to_come exe a room c.loop-count.at) rest c.loop-count.invariant.upto (none_come exe a room c.loop-count.at (omega arith) found) in
    goes_on _ c.jump.ensures.ok (λ h. upto_ok old c.loop-count.p c.jump.new.self all rest u h)

pub returns-in_default-clause-err : goal.returns-in_default-clause-err
returns-in_default-clause-err c =
    let exe = c.args.exe.now in
    let a = around c.args.starts.now in
    let all = copy_of exe a c.args.start in
    follows _ c.jump.ensures.err (λ h. upto_same c.args.p.now c.loop-count.p c.jump.new.self all (to_come exe a (64 - c.loop-count.count) c.loop-count.at) c.loop-count.invariant.upto h)

pub returns-in-Transfer-clause-ok : goal.returns-in-Transfer-clause-ok
returns-in-Transfer-clause-ok c =
    let old = c.args.p.now in
    let exe = c.args.exe.now in
    let a = around c.args.starts.now in
    let all = copy_of exe a c.args.start in
    let room = 64 - c.loop-count.count in
    let at = c.loop-count.at in
    let i = c.in-Some.here.inst in
    let n = c.in-Some.here.len in
    let found = sym (ap (option_map (λ (s : Spelled). (s.inst, s.len))) c.in-Some.is) ∙ c.instruction_at.ensures.inst in
    let inside = c.in-Some.ensures.inside in
    let u = upto_as old c.loop-count.p all (to_come exe a room at) (end_by a i (at + n)) c.loop-count.invariant.upto (transfer_comes exe a room (63 - c.loop-count.count) at (omega arith) i n found (omega (arith, inside)) (sym c.kind.ensures ∙ c.in-Transfer.is)) in
    goes_on _ c.put_end.ensures.ok (λ h. upto_ok old c.loop-count.p c.put_end.new.p all (end_by a i (at + n)) u h)

pub returns-in-Transfer-clause-err : goal.returns-in-Transfer-clause-err
returns-in-Transfer-clause-err c =
    let old = c.args.p.now in
    let exe = c.args.exe.now in
    let a = around c.args.starts.now in
    let all = copy_of exe a c.args.start in
    let room = 64 - c.loop-count.count in
    let at = c.loop-count.at in
    let i = c.in-Some.here.inst in
    let n = c.in-Some.here.len in
    let found = sym (ap (option_map (λ (s : Spelled). (s.inst, s.len))) c.in-Some.is) ∙ c.instruction_at.ensures.inst in
    let inside = c.in-Some.ensures.inside in
    let u = upto_as old c.loop-count.p all (to_come exe a room at) (end_by a i (at + n)) c.loop-count.invariant.upto (transfer_comes exe a room (63 - c.loop-count.count) at (omega arith) i n found (omega (arith, inside)) (sym c.kind.ensures ∙ c.in-Transfer.is)) in
    follows _ c.put_end.ensures.err (λ g. upto_grew old c.loop-count.p c.put_end.new.p all (end_by a i (at + n)) u g)

pub returns-clause-ok : goal.returns-clause-ok
returns-clause-ok c =
    let old = c.args.p.now in
    let exe = c.args.exe.now in
    let a = around c.args.starts.now in
    let all = copy_of exe a c.args.start in
    let room = 64 - c.loop-count.count in
    let at = c.loop-count.at in
    let u = upto_as old c.loop-count.p all (to_come exe a room at) (part a at) c.loop-count.invariant.upto (full_come exe a room at (omega arith)) in
    goes_on _ c.part.ensures.ok (λ h. upto_ok old c.loop-count.p c.part.new.p all (part a at) u h)

pub returns-clause-err : goal.returns-clause-err
returns-clause-err c =
    let old = c.args.p.now in
    let exe = c.args.exe.now in
    let a = around c.args.starts.now in
    let all = copy_of exe a c.args.start in
    let room = 64 - c.loop-count.count in
    let at = c.loop-count.at in
    let u = upto_as old c.loop-count.p all (to_come exe a room at) (part a at) c.loop-count.invariant.upto (full_come exe a room at (omega arith)) in
    follows _ c.part.ensures.err (λ g. upto_grew old c.loop-count.p c.part.new.p all (part a at) u g)

pub returns-in_err-put_own-in-Plain-clause-err : goal.returns-in_err-put_own-in-Plain-clause-err
returns-in_err-put_own-in-Plain-clause-err c =
    let old = c.args.p.now in
    let exe = c.args.exe.now in
    let a = around c.args.starts.now in
    let all = copy_of exe a c.args.start in
    let room = 64 - c.loop-count.count in
    let less = 63 - c.loop-count.count in
    let at = c.loop-count.at in
    let i = c.in-Some.here.inst in
    let n = c.in-Some.here.len in
    let found = sym (ap (option_map (λ (s : Spelled). (s.inst, s.len))) c.in-Some.is) ∙ c.instruction_at.ensures.inst in
    let own = own_items exe (record { at = at; inst = i; size = n }) in
    let come : to_come exe a room at ≡ own ++ to_come exe a less (at + n) = elim c.in-Plain.is as (λ _. to_come exe a room at ≡ own ++ to_come exe a less (at + n)) [
      | inl k ↦ plain_comes exe a room less at (omega arith) i n found (sym c.kind.ensures ∙ k)
      | inr k ↦ island_comes exe a room less at (omega arith) i n found (sym c.kind.ensures ∙ k)
    ] in
    let u = upto_as old c.loop-count.p all (to_come exe a room at) (own ++ to_come exe a less (at + n)) c.loop-count.invariant.upto come in
    let own_put = map item.Byte (take n c.in-Some.here.bytes) ++ df_items i in
    anyway _ (upto_grew_part old c.loop-count.p c.put_own.new.p all own (to_come exe a less (at + n)) u (grew_as c.loop-count.p c.put_own.new.p own own_put (sym (own_read exe at n i c.in-Some.here.bytes c.in-Some.ensures.bytes)) c.in_err-put_own-in-Plain.ensures.err))

pub loop-count-preserved : goal.loop-count-preserved
loop-count-preserved c =
    let old = c.args.p.now in
    let exe = c.args.exe.now in
    let a = around c.args.starts.now in
    let all = copy_of exe a c.args.start in
    let room = 64 - c.loop-count.count in
    let less = 64 - (c.loop-count.count + 1) in
    let at = c.loop-count.at in
    let i = c.in-Some.here.inst in
    let n = c.in-Some.here.len in
    let found = sym (ap (option_map (λ (s : Spelled). (s.inst, s.len))) c.in-Some.is) ∙ c.instruction_at.ensures.inst in
    let own = own_items exe (record { at = at; inst = i; size = n }) in
    let come : to_come exe a room at ≡ own ++ to_come exe a less (at + n) = elim c.in-Plain.is as (λ _. to_come exe a room at ≡ own ++ to_come exe a less (at + n)) [
      | inl k ↦ plain_comes exe a room less at (omega arith) i n found (sym c.kind.ensures ∙ k)
      | inr k ↦ island_comes exe a room less at (omega arith) i n found (sym c.kind.ensures ∙ k)
    ] in
    let u = upto_as old c.loop-count.p all (to_come exe a room at) (own ++ to_come exe a less (at + n)) c.loop-count.invariant.upto come in
    record {
      few = omega arith;
      upto = upto_more old c.loop-count.p c.put_own.new.p all own (to_come exe a less (at + n)) u (c.in_ok-put_own-in-Plain.ensures.ok ∙ ap (λ x. c.loop-count.p ++ x) (own_read exe at n i c.in-Some.here.bytes c.in-Some.ensures.bytes));
      linkable = λ rest. c.loop-count.invariant.linkable (own_room exe a room less at n i (omega arith) c.in-Some.ensures.short come rest);
    }

pub returns-in_default-clause-linkable : goal.returns-in_default-clause-linkable
returns-in_default-clause-linkable c =
    let exe = c.args.exe.now in
    let a = around c.args.starts.now in
    let room = 64 - c.loop-count.count in
    let found = sym (ap (option_map (λ (s : Spelled). (s.inst, s.len))) c.in_default.is) ∙ c.instruction_at.ensures.inst in
    goes_on _ c.jump.ensures.ok (λ h. c.loop-count.invariant.linkable (none_room exe a room c.loop-count.at (omega arith) found))

pub returns-in-Transfer-clause-linkable : goal.returns-in-Transfer-clause-linkable
returns-in-Transfer-clause-linkable c =
    let exe = c.args.exe.now in
    let a = around c.args.starts.now in
    let room = 64 - c.loop-count.count in
    let at = c.loop-count.at in
    let i = c.in-Some.here.inst in
    let n = c.in-Some.here.len in
    let found = sym (ap (option_map (λ (s : Spelled). (s.inst, s.len))) c.in-Some.is) ∙ c.instruction_at.ensures.inst in
    let inside = c.in-Some.ensures.inside in
    let come = transfer_comes exe a room (63 - c.loop-count.count) at (omega arith) i n found (omega (arith, inside)) (sym c.kind.ensures ∙ c.in-Transfer.is) in
    goes_on _ c.put_end.ensures.ok (λ h. c.loop-count.invariant.linkable (last_room exe a room at (at + n) i (omega arith) (omega (arith, inside)) c.in-Some.ensures.valid come))

pub returns-clause-linkable : goal.returns-clause-linkable
returns-clause-linkable c =
    let exe = c.args.exe.now in
    let a = around c.args.starts.now in
    let room = 64 - c.loop-count.count in
    goes_on _ c.part.ensures.ok (λ h. c.loop-count.invariant.linkable (full_room exe a room c.loop-count.at (omega arith)))
