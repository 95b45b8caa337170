use Rattle.std.proofs.Common.{rules, ◌≡◌, ℕ, ◌<◌, ltb, ltb-true, ltb-false, List, length, get_or, sym, ap, ◌∙◌, subst, arith}
use Rattle.std.specs.Prelude.{is_some}
use Rattle.std.proofs.lemmas.List.Sorted.{IsPartitionPoint-from_clause, IsPartitionedBy-ltb}
use Rattle.code_layout.specs.Places.{place_in, AddressesAscend}
use Rattle.code_layout.proofs.Pairs.{no_later, place_here, none_there}
use Rattle.code_layout.proofs.places.Places.place_of.Goals as goal

pub returns-in-Some : goal.returns-in-Some
returns-in-Some c =
    let y = c.args.address in
    let xs = c.deref.result.now in
    let i = c.partition_point-index.result in
    let pair = c.in-Some.pair.now in
    let up = subst AddressesAscend (sym c.deref.ensures.value) c.self.invariant in
    let point = IsPartitionPoint-from_clause (λ (p : ℕ × ℕ). ltb p.0 y) _ _ c.partition_point-index.ensures.partitioned (IsPartitionedBy-ltb (λ (p : ℕ × ℕ). p.0) xs y (no_later xs up)) (λ a r q k. search rules) in
    let same : c.deref-2.result.now ≡ xs = c.deref-2.ensures.value ∙ sym c.deref.ensures.value in
    let is : pair ≡ get_or xs i pair = c.in-Some.ensures.lookup.3.1 pair ∙ ap (λ ps. get_or ps i pair) same in
    let inside : i < length xs = subst (λ (ps : List (ℕ × ℕ)). i < length ps) same c.in-Some.ensures.lookup.3.0 in
    ap (λ (p : ℕ × ℕ). p.1) is
    ∙ sym (place_here xs i pair y inside (λ k l. ltb-true _ _ (point.0 k pair (omega arith) l)) (ap (λ (p : ℕ × ℕ). p.0) (sym is) ∙ c.if-pair-address.true))
    ∙ ap (λ ps. place_in ps y) (c.deref.ensures.value ∙ c.self.view_is)

pub returns-in_default : goal.returns-in_default
returns-in_default c =
    let y = c.args.address in
    let xs = c.deref.result.now in
    let i = c.partition_point-index.result in
    let pair = c.in-Some.pair.now in
    let up = subst AddressesAscend (sym c.deref.ensures.value) c.self.invariant in
    let point = IsPartitionPoint-from_clause (λ (p : ℕ × ℕ). ltb p.0 y) _ _ c.partition_point-index.ensures.partitioned (IsPartitionedBy-ltb (λ (p : ℕ × ℕ). p.0) xs y (no_later xs up)) (λ a r q k. search rules) in
    let same : c.deref-2.result.now ≡ xs = c.deref-2.ensures.value ∙ sym c.deref.ensures.value in
    let is : pair ≡ get_or xs i pair = c.in-Some.ensures.lookup.3.1 pair ∙ ap (λ ps. get_or ps i pair) same in
    let first : pair.0 ≡ (get_or xs i pair).0 = ap (λ (p : ℕ × ℕ). p.0) is in
    sym (none_there xs i pair y up (λ k l. ltb-true _ _ (point.0 k pair (omega arith) l)) (λ l. let least = ltb-false _ _ (point.1 i pair (omega arith) l) in let other = c.if-pair-address.false in omega (arith, least, first, other)))
    ∙ ap (λ ps. place_in ps y) (c.deref.ensures.value ∙ c.self.view_is)

pub returns-in_default-2 : goal.returns-in_default-2
returns-in_default-2 c =
    let y = c.args.address in
    let xs = c.deref.result.now in
    let i = c.partition_point-index.result in
    let up = subst AddressesAscend (sym c.deref.ensures.value) c.self.invariant in
    let point = IsPartitionPoint-from_clause (λ (p : ℕ × ℕ). ltb p.0 y) _ _ c.partition_point-index.ensures.partitioned (IsPartitionedBy-ltb (λ (p : ℕ × ℕ). p.0) xs y (no_later xs up)) (λ a r q k. search rules) in
    let behind = ltb-false i (length c.deref-2.result.now) (sym c.get.ensures.lookup.0 ∙ ap is_some c.in_default.is) in
    let same : length c.deref-2.result.now ≡ length xs = ap length (c.deref-2.ensures.value ∙ sym c.deref.ensures.value) in
    sym (none_there xs i (0, 0) y up (λ k l. ltb-true _ _ (point.0 k (0, 0) (omega arith) l)) (λ l. absurd (omega (arith, l, behind, same))))
    ∙ ap (λ ps. place_in ps y) (c.deref.ensures.value ∙ c.self.view_is)
