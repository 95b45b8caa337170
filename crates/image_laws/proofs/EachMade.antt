-- The fragment of each start has what it asks for.
use Rattle.std.proofs.Common.{◌≡◌, true, map, subst, sym, ap, ◌∙◌}
use Rattle.std.specs.Prelude.{All}
use Rattle.block_cut.specs.CountedEdges.{counting}
use Rattle.block_cut.specs.Transfers.{is_among}
use Rattle.flow_graph.specs.GraphOf.{starts_of}
use Rattle.block_make.specs.Keys.{IsKey}
use Rattle.block_make.specs.Laws.{FragmentsValid, ReadyKeeps}
use Rattle.code_layout.specs.Layout.{KeysAreKeys}
use Rattle.image_laws.specs.Coded.{key_at}
use Rattle.image_laws.specs.Stands.{CodeStands}
use Rattle.image_laws.specs.Serves.{EachIsLifted}
use Rattle.image_laws.specs.Valid.{ItemsValid, CodeIsBytes}
use Rattle.image_laws.specs.Made.{EachIsMade}
use Rattle.image_laws.proofs.SameKinds.{ready_lifted}
use Rattle.image_laws.proofs.Standing.{same_keys, same_starts}
use Rattle.image_laws.proofs.KnownExits.{exits_small, key_here, code_small, outs_small}
use Rattle.image_laws.proofs.CodeBytes as bytes

pub items_valid : EachIsLifted → ReadyKeeps → FragmentsValid → ItemsValid
items_valid lifted keeps fragments exe edges x guest h = fragments.valid exe (key_at exe edges x) (ready_lifted lifted keeps exe x h) (exits_small exe guest edges x)

pub code_is_bytes : ItemsValid → CodeStands → CodeIsBytes
code_is_bytes valid stands exe edges out code guest h has = bytes.code_small exe edges out h (λ x. valid exe edges x guest h) (stands.entry exe edges out code has).valid code has

pub each_is_made : ItemsValid → FragmentsValid → KeysAreKeys → EachIsMade
each_is_made valid fragments keys exe edges guest h up few x start =
    let all : All (IsKey exe) (map (key_at exe edges) (starts_of exe (counting exe edges))) = subst (All (IsKey exe)) (same_keys exe edges) (keys.each exe edges guest up few) in
    let there : is_among (starts_of exe (counting exe edges)) x ≡ true = sym (ap (λ xs. is_among xs x) (same_starts exe edges)) ∙ start in
    let key = key_here exe edges (starts_of exe (counting exe edges)) x all there in
    record {
      valid = valid exe edges x guest h;
      labels = fragments.distinct exe (key_at exe edges x);
      exits = key.distinct;
      outs = outs_small exe x (code_small exe guest x key.code);
    }
