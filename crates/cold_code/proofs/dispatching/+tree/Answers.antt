use Rattle.std.proofs.Common.{ℕ, ◌≡◌, ◌+◌, ◌-◌, ◌≤◌, ◌/◌, ◌∷◌, [], ◌++◌, List, length, take, drop, get_or, Some, None, refl, sym, ap, ◌∙◌, arith}
use Rattle.std.proofs.lemmas.List.{append-nil, take_all, length-drop}
use Rattle.ia_inst.specs.declared.inst.Inst.{Inst}
use Rattle.ia_encode.specs.declared.item.Dest.TheVariants as dests
use Rattle.ia_encode.specs.declared.item.Item.{Item}
use Rattle.ia_encode.specs.declared.item.Item.TheVariants as item
use Rattle.fall_stubs.proofs.Parts.{anyway, follows, goes_on}
use Rattle.cold_code.specs.Dispatcher.{compare_with, tree}
use Rattle.cold_code.proofs.Upto.{Upto, upto_none, upto_as, upto_more, upto_ok, upto_grew, upto_same, upto_grew_part}
use Rattle.cold_code.proofs.Trees.{tree_none, tree_one, tree_more}
use Rattle.cold_code.proofs.dispatching.+tree.Goals as goal

-- behind the comparison of more than one
abbrev above : List ℕ → ℕ → List ℕ
above l half = take (length l - half) (drop half l)

compared : (old cur : List Item) (l : List ℕ) (first miss fresh half : ℕ) (i : Inst) → 2 ≤ length l → half ≡ length l / 2
    → cur ≡ old ++ item.Inst i ∷ item.Jump (Some 2) (dests.Label fresh) ∷ [] → item.Inst i ≡ compare_with (get_or l half 0)
    → Upto old cur (tree (length l) l first miss fresh) (tree (length (above l half)) (above l half) (first + half) miss (fresh + half) ++ (item.Label fresh ∷ tree (length (take half l)) (take half l) first miss (fresh + 1)))
compared old cur l first miss fresh half i two h e f =
    let all = tree (length l) l first miss fresh in
    let low = item.Label fresh ∷ tree (length (take half l)) (take half l) first miss (fresh + 1) in
    let front = compare_with (get_or l half 0) ∷ item.Jump (Some 2) (dests.Label fresh) ∷ [] in
    let whole : drop half l ≡ above l half = sym (take_all (length l - half) (drop half l) (omega (arith, length-drop half l))) in
    let split : all ≡ front ++ (tree (length (above l half)) (above l half) (first + half) miss (fresh + half) ++ low) =
    tree_more l first miss fresh half two h ∙ ap (λ (k : List ℕ). front ++ (tree (length k) k (first + half) miss (fresh + half) ++ low)) whole in
    upto_more old old cur all front (tree (length (above l half)) (above l half) (first + half) miss (fresh + half) ++ low) (upto_as old old all all (front ++ (tree (length (above l half)) (above l half) (first + half) miss (fresh + half) ++ low)) (upto_none old all) split) (e ∙ ap (λ x. old ++ x ∷ item.Jump (Some 2) (dests.Label fresh) ∷ []) f)

pub returns-in_err-tree-in_default-clause-err : goal.returns-in_err-tree-in_default-clause-err
returns-in_err-tree-in_default-clause-err t c =
    let l : List ℕ = c.args.list.now in
    let half = length l / 2 in
    let u = compared c.args.p.now c.append-in_default.new.self l c.args.first c.args.miss c.args.fresh half c.comparison-in_default.result c.in_default.len_at_least refl c.in_ok-append-in_default.ensures.ok (ap item.Inst c.comparison-in_default.ensures.value) in
    anyway _ (upto_grew_part c.args.p.now c.append-in_default.new.self c.tree.new.p (tree (length l) l c.args.first c.args.miss c.args.fresh) (tree (length (above l half)) (above l half) (c.args.first + half) c.args.miss (c.args.fresh + half)) (item.Label c.args.fresh ∷ tree (length (take half l)) (take half l) c.args.first c.args.miss (c.args.fresh + 1)) u c.in_err-tree-in_default.ensures.err)

pub returns-in_err-label-in_default-clause-err : goal.returns-in_err-label-in_default-clause-err
returns-in_err-label-in_default-clause-err t c =
    let l : List ℕ = c.args.list.now in
    let half = length l / 2 in
    let all = tree (length l) l c.args.first c.args.miss c.args.fresh in
    let high = tree (length (above l half)) (above l half) (c.args.first + half) c.args.miss (c.args.fresh + half) in
    let low = tree (length (take half l)) (take half l) c.args.first c.args.miss (c.args.fresh + 1) in
    let u = compared c.args.p.now c.append-in_default.new.self l c.args.first c.args.miss c.args.fresh half c.comparison-in_default.result c.in_default.len_at_least refl c.in_ok-append-in_default.ensures.ok (ap item.Inst c.comparison-in_default.ensures.value) in
    let v = upto_more c.args.p.now c.append-in_default.new.self c.tree.new.p all high (item.Label c.args.fresh ∷ low) u c.in_ok-tree-in_default.ensures.ok in
    anyway _ (upto_same c.args.p.now c.tree.new.p c.label.new.self all (item.Label c.args.fresh ∷ low) v c.in_err-label-in_default.ensures.err)

pub returns-in-empty-clause-ok : goal.returns-in-empty-clause-ok
returns-in-empty-clause-ok t c =
    sym (ap (λ x. c.args.p.now ++ x) (tree_none c.args.list.now c.args.first c.args.miss c.args.fresh (omega (arith, c.in-empty.len_below))) ∙ append-nil c.args.p.now)

pub returns-in-len1-clause-ok : goal.returns-in-len1-clause-ok
returns-in-len1-clause-ok t c =
    let l : List ℕ = c.args.list.now in
    let old = c.args.p.now in
    let P : Type 0 = c.append.new.self ≡ old ++ item.Inst c.comparison.result ∷ item.Jump (Some 4) (dests.Label (c.args.first + 1)) ∷ item.Jump None (dests.Label c.args.miss) ∷ [] in
    let Q : Type 0 = c.append.new.self ≡ old ++ tree (length l) l c.args.first c.args.miss c.args.fresh in
    let one : length l ≡ 1 = omega (arith, c.in-len1.len_at_least, c.in-len1.len_below) in
    let step : P → Q = λ h.
    h
    ∙ (ap (λ i. old ++ item.Inst i ∷ item.Jump (Some 4) (dests.Label (c.args.first + 1)) ∷ item.Jump None (dests.Label c.args.miss) ∷ []) c.comparison.ensures.value
    ∙ ap (λ x. old ++ x) (sym (tree_one l c.args.first c.args.miss c.args.fresh one))) in
    goes_on {P = P} {Q = Q} c.append.result c.append.ensures.ok step

pub returns-in_ok-label-in_default-clause-ok : goal.returns-in_ok-label-in_default-clause-ok
returns-in_ok-label-in_default-clause-ok t c =
    let l : List ℕ = c.args.list.now in
    let half = length l / 2 in
    let all = tree (length l) l c.args.first c.args.miss c.args.fresh in
    let high = tree (length (above l half)) (above l half) (c.args.first + half) c.args.miss (c.args.fresh + half) in
    let low = tree (length (take half l)) (take half l) c.args.first c.args.miss (c.args.fresh + 1) in
    let u = compared c.args.p.now c.append-in_default.new.self l c.args.first c.args.miss c.args.fresh half c.comparison-in_default.result c.in_default.len_at_least refl c.in_ok-append-in_default.ensures.ok (ap item.Inst c.comparison-in_default.ensures.value) in
    let v = upto_more c.args.p.now c.append-in_default.new.self c.tree.new.p all high (item.Label c.args.fresh ∷ low) u c.in_ok-tree-in_default.ensures.ok in
    let w = upto_more c.args.p.now c.tree.new.p c.label.new.self all (item.Label c.args.fresh ∷ []) low v c.in_ok-label-in_default.ensures.ok in
    goes_on _ c.tree-in_default.ensures.ok (λ h. upto_ok c.args.p.now c.label.new.self c.tree-in_default.new.p all low w h)

pub returns-in_ok-label-in_default-clause-err : goal.returns-in_ok-label-in_default-clause-err
returns-in_ok-label-in_default-clause-err t c =
    let l : List ℕ = c.args.list.now in
    let half = length l / 2 in
    let all = tree (length l) l c.args.first c.args.miss c.args.fresh in
    let high = tree (length (above l half)) (above l half) (c.args.first + half) c.args.miss (c.args.fresh + half) in
    let low = tree (length (take half l)) (take half l) c.args.first c.args.miss (c.args.fresh + 1) in
    let u = compared c.args.p.now c.append-in_default.new.self l c.args.first c.args.miss c.args.fresh half c.comparison-in_default.result c.in_default.len_at_least refl c.in_ok-append-in_default.ensures.ok (ap item.Inst c.comparison-in_default.ensures.value) in
    let v = upto_more c.args.p.now c.append-in_default.new.self c.tree.new.p all high (item.Label c.args.fresh ∷ low) u c.in_ok-tree-in_default.ensures.ok in
    let w = upto_more c.args.p.now c.tree.new.p c.label.new.self all (item.Label c.args.fresh ∷ []) low v c.in_ok-label-in_default.ensures.ok in
    follows _ c.tree-in_default.ensures.err (λ g. upto_grew c.args.p.now c.label.new.self c.tree-in_default.new.p all low w g)
