use Rattle.std.proofs.Common.{◌≡◌, ℕ, ◌+◌, ◌++◌, List, length, take, refl, ◌∙◌, sym, ap, subst, arith}
use Rattle.std.specs.Prelude.{Option, Some, None, OnOk}
use Rattle.ia_inst.specs.declared.inst.Inst.{Inst}
use Rattle.ia_encode.specs.declared.item.Dest.{Dest}
use Rattle.ia_encode.specs.declared.item.Dest.TheVariants as dests
use Rattle.ia_encode.specs.declared.item.Item.{Item}
use Rattle.par_moves.specs.Homes.{register_homes}
use Rattle.elf_read.specs.Code.{code_at}
use Rattle.fall_stubs.specs.Exchange.{island_items}
use Rattle.block_make.specs.FragmentItems.{own_bytes, dest_of}
use Rattle.block_make.specs.Keys.{live_at}
use Rattle.block_make.proofs.Native.{native_found, same_len, not_found}
use Rattle.block_make.proofs.exits.native.Goals as goal
use Rattle.block_make.proofs.exits.native.Goals.{in-Some-live_at, in-None}

pub returns-in_default : goal.returns-in_default
returns-in_default c =
    let f = native_found c.one_block.ensures c.args.exe.now c.args.key.now.start c.args.len c.requires.native in
    absurd (not_found (f.0, c.args.len) (c.in_default.ensures.inst ∙ f.1))

to_block : (y : ℕ) (o : Option ℕ) (set : ℕ) → Some set ≡ o → dests.Block y ≡ dest_of y o
to_block y None set e = absurd cc
to_block y (Some s) set e = refl

to_original : (y : ℕ) (o : Option ℕ) → None ≡ o → dests.Original y ≡ dest_of y o
to_original y None e = refl
to_original y (Some s) e = absurd cc

pub returns : goal.returns
returns c =
    let exe = c.args.exe.now in
    let key = c.args.key.now in
    let f = native_found c.one_block.ensures exe key.start c.args.len c.requires.native in
    let own = c.in-Some.own in
    let e : own.len ≡ c.args.len = same_len own.inst f.0 own.len c.args.len (c.in-Some.ensures.inst ∙ f.1) in
    let bytes : take own.len own.bytes ≡ own_bytes exe key.start c.args.len = c.in-Some.ensures.bytes ∙ ap (λ (n : ℕ). take n (code_at key.start exe.segments)) e in
    let behind = key.start + own.len in
    let known : c.match-live_at.next ≡ dest_of behind (live_at key.exits behind) =
    elim c.match-live_at.branch [
      | in-Some-live_at w ↦ w.next-is ∙ to_block behind (live_at key.exits behind) _ (w.in-Some-live_at.ensures ∙ ap (λ (es : List (ℕ × ℕ)). live_at es behind) c.as_slice.ensures)
      | in-None w ↦ w.next-is ∙ to_original behind (live_at key.exits behind) (w.in-None.ensures ∙ ap (λ (es : List (ℕ × ℕ)). live_at es behind) c.as_slice.ensures)
    ] in
    let next : c.match-live_at.next ≡ dest_of (key.start + c.args.len) (live_at key.exits (key.start + c.args.len)) =
    known ∙ ap (λ (n : ℕ). dest_of (key.start + n) (live_at key.exits (key.start + n))) e in
    subst (λ (xs : List ℕ). OnOk c.island.result (c.island.new.p ≡ c.args.p.now ++ island_items register_homes xs 0 (dest_of (key.start + c.args.len) (live_at key.exits (key.start + c.args.len))))) bytes
    (subst (λ (d : Dest). OnOk c.island.result (c.island.new.p ≡ c.args.p.now ++ island_items register_homes (take own.len own.bytes) 0 d)) next c.island.ensures.ok)
