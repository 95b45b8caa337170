use Rattle.std.proofs.Common.{◌≡◌, ℕ, List, length, map, ap, sym, subst, ◌∙◌}
use Rattle.std.specs.Prelude.{IfOk}
use Rattle.ssa_form.specs.declared.form.BlockKey.{BlockKey}
use Rattle.live_flow.specs.declared.row.LiveRow.{LiveRow}
use Rattle.live_flow.specs.Live.{live_in, StartsAscend, NextAreStarts}
use Rattle.code_layout.specs.Keys.{rows_of, key_by}
use Rattle.code_layout.proofs.LiveRows.{live_length, rows_same, keys_by_rows, rows_ascend, next_are}
use Rattle.code_layout.proofs.keys.keys_from.Goals as goal

pub live-requires-clause-ascending : goal.live-requires-clause-ascending
live-requires-clause-ascending c =
    let exe = c.args.exe.now in
    let g = c.requires.graph in
    subst StartsAscend (sym (c.requires.rows ∙ rows_same exe g.0 c.args.graph.now.nodes g.1)) (rows_ascend c.one_graph.ensures exe g.0 c.requires.guest)

pub live-requires-clause-starts : goal.live-requires-clause-starts
live-requires-clause-starts c =
    let exe = c.args.exe.now in
    let g = c.requires.graph in
    subst NextAreStarts (sym (c.requires.rows ∙ rows_same exe g.0 c.args.graph.now.nodes g.1)) (next_are c.one_graph.ensures exe g.0 c.requires.guest)

pub keys_by-requires-clause-ascending : goal.keys_by-requires-clause-ascending
keys_by-requires-clause-ascending c =
    let exe = c.args.exe.now in
    let g = c.requires.graph in
    subst StartsAscend (sym (c.requires.rows ∙ rows_same exe g.0 c.args.graph.now.nodes g.1)) (rows_ascend c.one_graph.ensures exe g.0 c.requires.guest)

pub keys_by-requires-clause-starts : goal.keys_by-requires-clause-starts
keys_by-requires-clause-starts c =
    let exe = c.args.exe.now in
    let g = c.requires.graph in
    subst NextAreStarts (sym (c.requires.rows ∙ rows_same exe g.0 c.args.graph.now.nodes g.1)) (next_are c.one_graph.ensures exe g.0 c.requires.guest)

pub keys_by-requires-clause-sets : goal.keys_by-requires-clause-sets
keys_by-requires-clause-sets c =
    ap length (c.as_slice.ensures.value ∙ c.in_ok-sets.ensures) ∙ live_length c.args.rows.now

pub returns : goal.returns
returns c edges e =
    let exe = c.args.exe.now in
    let rows : List LiveRow = rows_of exe edges in
    let all = c.requires.rows ∙ rows_same exe edges c.args.graph.now.nodes e in
    let sets = c.as_slice.ensures.value ∙ c.in_ok-sets.ensures ∙ ap live_in all in
    let P : List BlockKey → Type 0 = λ ks. IfOk c.keys_by.result (λ keys. keys.items ≡ ks) in
    subst P (ap (λ (r : List LiveRow). map (key_by r c.as_slice.result.now) r) all ∙ ap (λ (s : List ℕ). map (key_by rows s) rows) sets ∙ keys_by_rows exe edges) c.keys_by.ensures
