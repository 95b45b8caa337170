-- What is to come of a copy, from an instruction on.
use Rattle.std.proofs.Common.{◌≡◌, ℕ, suc, ◌+◌, ◌-◌, ◌<◌, ◌^◌, List, [], ◌∷◌, ◌++◌, map, take, Some, None, sym, ap, ◌∙◌, arith}
use Rattle.std.proofs.lemmas.List.{append-nil}
use Rattle.elf_read.specs.declared.exe.Exe.{Exe}
use Rattle.elf_read.specs.Code.{code_at}
use Rattle.ia_inst.specs.declared.inst.Inst.{Inst}
use Rattle.ia_inst.specs.declared.inst.Kind.{Kind}
use Rattle.ia_inst.specs.declared.inst.Kind.TheVariants as kinds
use Rattle.ia_inst.specs.Kinds.{kind_of}
use Rattle.ia_inst.specs.Meaning.{wrap}
use Rattle.ia_encode.specs.declared.item.Dest.TheVariants as dests
use Rattle.ia_encode.specs.declared.item.Item.{Item}
use Rattle.ia_encode.specs.declared.item.Item.TheVariants as item
use Rattle.block_cut.specs.Places.{Placed, found_at, inst_found}
use Rattle.cold_cut.specs.ColdBlocks.{cold_by, cold_from, cold_of}
use Rattle.cold_cut.proofs.ColdReading.{stands_next, none_next, no_room}
use Rattle.cold_code.specs.Copies.{Around, part, end_by, df_items, own_items, inst_items, block_items, copy_of}

module _ (exe : Exe) (a : Around) where
  -- with room for so many instructions
  pub to_come : ℕ → ℕ → List Item
  to_come room at = block_items exe a at (cold_from exe room at)

  pub whole_copy : (x room : ℕ) → room ≡ 64 → copy_of exe a x ≡ to_come room x
  unfolding copy_of cold_of to_come
  whole_copy x room e = ap (λ n. block_items exe a x (cold_from exe n x)) (sym e)

  pub none_come : (room at : ℕ) → 0 < room → None ≡ inst_found (found_at exe at) → to_come room at ≡ item.Jump None (dests.Original at) ∷ []
  unfolding to_come
  none_come room at l e = ap (block_items exe a at) (none_next exe room (room - 1) at (omega (arith, l)) e)

  pub full_come : (room at : ℕ) → room ≡ 0 → to_come room at ≡ part a at
  unfolding to_come
  full_come room at e = ap (block_items exe a at) (no_room exe room at e)

  module _ (room less at : ℕ) (more : room ≡ suc less) (i : Inst) (n : ℕ) (is : Some (i, n) ≡ inst_found (found_at exe at)) where
    abbrev here : Placed
    here = record { at = at; inst = i; size = n }

    next : (kind : Kind) → kind_of i ≡ kind → to_come room at ≡ block_items exe a at (cold_by kind here (cold_from exe less (at + n)))
    unfolding to_come
    next kind k = ap (block_items exe a at) (stands_next exe room less at i n kind more is k)

    pub plain_comes : kind_of i ≡ kinds.Plain → to_come room at ≡ own_items exe here ++ to_come less (at + n)
    unfolding to_come
    plain_comes k = next kinds.Plain k ∙ ap (λ kind. inst_items exe a kind here ++ block_items exe a (at + n) (cold_from exe less (at + n))) k

    pub island_comes : kind_of i ≡ kinds.Island → to_come room at ≡ own_items exe here ++ to_come less (at + n)
    unfolding to_come
    island_comes k = next kinds.Island k ∙ ap (λ kind. inst_items exe a kind here ++ block_items exe a (at + n) (cold_from exe less (at + n))) k

    pub transfer_ends : kind_of i ≡ kinds.Transfer → to_come room at ≡ end_by a i (wrap (at + n))
    unfolding to_come
    transfer_ends k =
        next kinds.Transfer k
        ∙ (ap (λ kind. inst_items exe a kind here ++ []) k
        ∙ append-nil (end_by a i (wrap (at + n))))

    pub transfer_comes : at + n < 2 ^ 32 → kind_of i ≡ kinds.Transfer → to_come room at ≡ end_by a i (at + n)
    transfer_comes low k = transfer_ends k ∙ ap (end_by a i) (small (at + n) low)
      where
        small : (x : ℕ) → x < 2 ^ 32 → wrap x ≡ x
        small x l = omega (arith, l)

-- the own bytes as they are read
pub own_read : (exe : Exe) (at n : ℕ) (i : Inst) (bytes : List ℕ) → take n bytes ≡ take n (code_at at exe.segments) → map item.Byte (take n bytes) ++ df_items i ≡ own_items exe (record { at = at; inst = i; size = n })
own_read exe at n i bytes e = ap (λ bs. map item.Byte bs ++ df_items i) e
