use Rattle.std.proofs.Common.{◌≡◌, ℕ, ◌+◌, ◌≤◌, Bool, true, List, [], ◌∷◌, ◌++◌, length, set, None, refl, ap, sym, ◌∙◌, subst, arith}
use Rattle.std.proofs.lemmas.Grind.{common_steps}
use Rattle.trace_file.specs.Edges.{Edge, pairs}
use Rattle.trace_set.specs.Rows.{shown_rows}
use Rattle.trace_set.specs.Traces.{Traces, sets_of, refusal, with_trace, traces_in, IsHeld}
use Rattle.trace_set.proofs.Held.{Rows, length_shown, pairs_shown, next_shown, refused_edges, refused_spent, not_refused, reached, one_behind, held_push, view_push}
use Rattle.trace_set.proofs.set.TraceSet.add.Goals as goal

pub returns-then-count-self : goal.returns-then-count-self
returns-then-count-self c =
    let sm : c.self.inside.pairs ≤ 16777216 = c.self.invariant.1.small in
    let n : length c.args.self.now.traces ≡ c.self.inside.live = length_shown c.self.inside.flags.items (shown_rows c.self.inside.rows) c.args.self.now c.self.inside.live c.self.inside.pairs c.self.view_is c.self.invariant.1 in
    let p : pairs (sets_of c.args.self.now.traces) ≡ c.self.inside.pairs = pairs_shown c.self.inside.flags.items (shown_rows c.self.inside.rows) c.args.self.now c.self.inside.live c.self.inside.pairs c.self.view_is c.self.invariant.1 in
    let lv : c.len-count.result ≡ length c.args.edges.now = c.len-count.ensures.value in
    (refused_edges c.args.self.now c.args.edges.now (omega (arith, n, c.if-self-ge-TRACE_LIMIT.false)) (omega (arith, p, lv, sm, c.if-count-self.true)), refl)

pub returns-then-row-ge-ADDITION_LIMIT : goal.returns-then-row-ge-ADDITION_LIMIT
returns-then-row-ge-ADDITION_LIMIT c =
    let sm : c.self.inside.pairs ≤ 16777216 = c.self.invariant.1.small in
    let n : length c.args.self.now.traces ≡ c.self.inside.live = length_shown c.self.inside.flags.items (shown_rows c.self.inside.rows) c.args.self.now c.self.inside.live c.self.inside.pairs c.self.view_is c.self.invariant.1 in
    let p : pairs (sets_of c.args.self.now.traces) ≡ c.self.inside.pairs = pairs_shown c.self.inside.flags.items (shown_rows c.self.inside.rows) c.args.self.now c.self.inside.live c.self.inside.pairs c.self.view_is c.self.invariant.1 in
    let lv : c.len-count.result ≡ length c.args.edges.now = c.len-count.ensures.value in
    let nx : length c.self.inside.flags.items + 1 ≡ c.args.self.now.next = next_shown c.self.inside.flags.items (shown_rows c.self.inside.rows) c.args.self.now c.self.view_is in
    let q : c.len-row.result ≡ length c.self.inside.flags.items = c.len-row.ensures ∙ c.self.inside.flags.ok.0 in
    (refused_spent c.args.self.now c.args.edges.now (omega (arith, n, c.if-self-ge-TRACE_LIMIT.false)) (omega (arith, p, lv, sm, c.if-count-self.false)) (omega (arith, q, nx, c.if-row-ge-ADDITION_LIMIT.true)), refl)

pub returns-in_err-reserve : goal.returns-in_err-reserve
returns-in_err-reserve c =
    let sm : c.self.inside.pairs ≤ 16777216 = c.self.invariant.1.small in
    let n : length c.args.self.now.traces ≡ c.self.inside.live = length_shown c.self.inside.flags.items (shown_rows c.self.inside.rows) c.args.self.now c.self.inside.live c.self.inside.pairs c.self.view_is c.self.invariant.1 in
    let p : pairs (sets_of c.args.self.now.traces) ≡ c.self.inside.pairs = pairs_shown c.self.inside.flags.items (shown_rows c.self.inside.rows) c.args.self.now c.self.inside.live c.self.inside.pairs c.self.view_is c.self.invariant.1 in
    let lv : c.len-count.result ≡ length c.args.edges.now = c.len-count.ensures.value in
    let nx : length c.self.inside.flags.items + 1 ≡ c.args.self.now.next = next_shown c.self.inside.flags.items (shown_rows c.self.inside.rows) c.args.self.now c.self.view_is in
    let q : c.len-row.result ≡ length c.self.inside.flags.items = c.len-row.ensures ∙ c.self.inside.flags.ok.0 in
    let f : refusal c.args.self.now c.args.edges.now ≡ None = not_refused c.args.self.now c.args.edges.now (omega (arith, n, c.if-self-ge-TRACE_LIMIT.false)) (omega (arith, p, lv, sm, c.if-count-self.false)) (omega (arith, q, nx, c.if-row-ge-ADDITION_LIMIT.false)) in
    let v : traces_in c.reserve.new.self.items (shown_rows c.self.inside.rows) ≡ c.args.self.now = ap (λ (d : List Bool). traces_in d (shown_rows c.self.inside.rows)) c.in_err-reserve.ensures.items ∙ c.self.view_is in
    grind (arith, common_steps, f, v)

pub invariant_of-self-in_err-reach : goal.invariant_of-self-in_err-reach
invariant_of-self-in_err-reach c =
    let w : IsHeld c.self.inside.flags.items (shown_rows c.reach.new.self) c.self.inside.live c.self.inside.pairs × (traces_in c.self.inside.flags.items (shown_rows c.reach.new.self) ≡ traces_in c.self.inside.flags.items (shown_rows c.self.inside.rows)) = reached c.self.inside.flags.items (shown_rows c.self.inside.rows) (shown_rows c.reach.new.self) c.self.inside.live c.self.inside.pairs c.len-row.result (c.len-row.ensures ∙ c.self.inside.flags.ok.0) c.self.invariant.1 c.in_err-reach.ensures.rows in
    (c.in_err-reach.ensures.kept, subst (λ (d : List Bool). IsHeld d (shown_rows c.reach.new.self) c.self.inside.live c.self.inside.pairs) (sym c.in_ok-reserve.ensures.items) w.0)

pub returns-in_err-reach : goal.returns-in_err-reach
returns-in_err-reach c =
    let sm : c.self.inside.pairs ≤ 16777216 = c.self.invariant.1.small in
    let n : length c.args.self.now.traces ≡ c.self.inside.live = length_shown c.self.inside.flags.items (shown_rows c.self.inside.rows) c.args.self.now c.self.inside.live c.self.inside.pairs c.self.view_is c.self.invariant.1 in
    let p : pairs (sets_of c.args.self.now.traces) ≡ c.self.inside.pairs = pairs_shown c.self.inside.flags.items (shown_rows c.self.inside.rows) c.args.self.now c.self.inside.live c.self.inside.pairs c.self.view_is c.self.invariant.1 in
    let lv : c.len-count.result ≡ length c.args.edges.now = c.len-count.ensures.value in
    let nx : length c.self.inside.flags.items + 1 ≡ c.args.self.now.next = next_shown c.self.inside.flags.items (shown_rows c.self.inside.rows) c.args.self.now c.self.view_is in
    let q : c.len-row.result ≡ length c.self.inside.flags.items = c.len-row.ensures ∙ c.self.inside.flags.ok.0 in
    let f : refusal c.args.self.now c.args.edges.now ≡ None = not_refused c.args.self.now c.args.edges.now (omega (arith, n, c.if-self-ge-TRACE_LIMIT.false)) (omega (arith, p, lv, sm, c.if-count-self.false)) (omega (arith, q, nx, c.if-row-ge-ADDITION_LIMIT.false)) in
    let w : IsHeld c.self.inside.flags.items (shown_rows c.reach.new.self) c.self.inside.live c.self.inside.pairs × (traces_in c.self.inside.flags.items (shown_rows c.reach.new.self) ≡ traces_in c.self.inside.flags.items (shown_rows c.self.inside.rows)) = reached c.self.inside.flags.items (shown_rows c.self.inside.rows) (shown_rows c.reach.new.self) c.self.inside.live c.self.inside.pairs c.len-row.result (c.len-row.ensures ∙ c.self.inside.flags.ok.0) c.self.invariant.1 c.in_err-reach.ensures.rows in
    let v : traces_in c.reserve.new.self.items (shown_rows c.reach.new.self) ≡ c.args.self.now = ap (λ (d : List Bool). traces_in d (shown_rows c.reach.new.self)) c.in_ok-reserve.ensures.items ∙ w.1 ∙ c.self.view_is in
    grind (arith, common_steps, f, v)

pub invariant_of-self-in_err-fill : goal.invariant_of-self-in_err-fill
invariant_of-self-in_err-fill c =
    let w : IsHeld c.self.inside.flags.items (shown_rows c.reach.new.self) c.self.inside.live c.self.inside.pairs × (traces_in c.self.inside.flags.items (shown_rows c.reach.new.self) ≡ traces_in c.self.inside.flags.items (shown_rows c.self.inside.rows)) = reached c.self.inside.flags.items (shown_rows c.self.inside.rows) (shown_rows c.reach.new.self) c.self.inside.live c.self.inside.pairs c.len-row.result (c.len-row.ensures ∙ c.self.inside.flags.ok.0) c.self.invariant.1 c.in_ok-reach.ensures.rows in
    (c.in_err-fill.ensures.kept, subst (λ (d : Rows). IsHeld c.reserve.new.self.items d c.self.inside.live c.self.inside.pairs) (sym c.in_err-fill.ensures.err) (subst (λ (d : List Bool). IsHeld d (shown_rows c.reach.new.self) c.self.inside.live c.self.inside.pairs) (sym c.in_ok-reserve.ensures.items) w.0))

pub returns-in_err-fill : goal.returns-in_err-fill
returns-in_err-fill c =
    let sm : c.self.inside.pairs ≤ 16777216 = c.self.invariant.1.small in
    let n : length c.args.self.now.traces ≡ c.self.inside.live = length_shown c.self.inside.flags.items (shown_rows c.self.inside.rows) c.args.self.now c.self.inside.live c.self.inside.pairs c.self.view_is c.self.invariant.1 in
    let p : pairs (sets_of c.args.self.now.traces) ≡ c.self.inside.pairs = pairs_shown c.self.inside.flags.items (shown_rows c.self.inside.rows) c.args.self.now c.self.inside.live c.self.inside.pairs c.self.view_is c.self.invariant.1 in
    let lv : c.len-count.result ≡ length c.args.edges.now = c.len-count.ensures.value in
    let nx : length c.self.inside.flags.items + 1 ≡ c.args.self.now.next = next_shown c.self.inside.flags.items (shown_rows c.self.inside.rows) c.args.self.now c.self.view_is in
    let q : c.len-row.result ≡ length c.self.inside.flags.items = c.len-row.ensures ∙ c.self.inside.flags.ok.0 in
    let f : refusal c.args.self.now c.args.edges.now ≡ None = not_refused c.args.self.now c.args.edges.now (omega (arith, n, c.if-self-ge-TRACE_LIMIT.false)) (omega (arith, p, lv, sm, c.if-count-self.false)) (omega (arith, q, nx, c.if-row-ge-ADDITION_LIMIT.false)) in
    let w : IsHeld c.self.inside.flags.items (shown_rows c.reach.new.self) c.self.inside.live c.self.inside.pairs × (traces_in c.self.inside.flags.items (shown_rows c.reach.new.self) ≡ traces_in c.self.inside.flags.items (shown_rows c.self.inside.rows)) = reached c.self.inside.flags.items (shown_rows c.self.inside.rows) (shown_rows c.reach.new.self) c.self.inside.live c.self.inside.pairs c.len-row.result (c.len-row.ensures ∙ c.self.inside.flags.ok.0) c.self.invariant.1 c.in_ok-reach.ensures.rows in
    let v : traces_in c.reserve.new.self.items (shown_rows c.fill.new.rows) ≡ c.args.self.now = ap (λ (d : List Bool). traces_in d (shown_rows c.fill.new.rows)) c.in_ok-reserve.ensures.items ∙ ap (traces_in c.self.inside.flags.items) c.in_err-fill.ensures.err ∙ w.1 ∙ c.self.view_is in
    grind (arith, common_steps, f, v)

pub invariant_of-self-2 : goal.invariant_of-self-2
invariant_of-self-2 c =
    let sm : c.self.inside.pairs ≤ 16777216 = c.self.invariant.1.small in
    let n : length c.args.self.now.traces ≡ c.self.inside.live = length_shown c.self.inside.flags.items (shown_rows c.self.inside.rows) c.args.self.now c.self.inside.live c.self.inside.pairs c.self.view_is c.self.invariant.1 in
    let p : pairs (sets_of c.args.self.now.traces) ≡ c.self.inside.pairs = pairs_shown c.self.inside.flags.items (shown_rows c.self.inside.rows) c.args.self.now c.self.inside.live c.self.inside.pairs c.self.view_is c.self.invariant.1 in
    let lv : c.len-count.result ≡ length c.args.edges.now = c.len-count.ensures.value in
    let nx : length c.self.inside.flags.items + 1 ≡ c.args.self.now.next = next_shown c.self.inside.flags.items (shown_rows c.self.inside.rows) c.args.self.now c.self.view_is in
    let q : c.len-row.result ≡ length c.self.inside.flags.items = c.len-row.ensures ∙ c.self.inside.flags.ok.0 in
    let w : IsHeld c.self.inside.flags.items (shown_rows c.reach.new.self) c.self.inside.live c.self.inside.pairs × (traces_in c.self.inside.flags.items (shown_rows c.reach.new.self) ≡ traces_in c.self.inside.flags.items (shown_rows c.self.inside.rows)) = reached c.self.inside.flags.items (shown_rows c.self.inside.rows) (shown_rows c.reach.new.self) c.self.inside.live c.self.inside.pairs c.len-row.result (c.len-row.ensures ∙ c.self.inside.flags.ok.0) c.self.invariant.1 c.in_ok-reach.ensures.rows in
    let l : length (shown_rows c.reach.new.self) ≡ length c.self.inside.flags.items + 1 = one_behind c.self.inside.flags.items (shown_rows c.reach.new.self) c.self.inside.live c.self.inside.pairs c.len-row.result q w.0 c.in_ok-reach.ensures.ok in
    let filled : shown_rows c.fill.new.rows ≡ set (shown_rows c.reach.new.self) (length c.self.inside.flags.items) c.args.edges.now =
    c.in_ok-fill.ensures.ok ∙ ap (λ (d : List Edge). set (shown_rows c.reach.new.self) c.len-row.result d) c.as_slice.ensures.value ∙ ap (λ (i : ℕ). set (shown_rows c.reach.new.self) i c.args.edges.now) q in
    let flags : c.push_reserved.new.self.items ≡ c.self.inside.flags.items ++ true ∷ [] = c.push_reserved.ensures.items ∙ ap (λ (d : List Bool). d ++ true ∷ []) c.in_ok-reserve.ensures.items in
    let h : IsHeld (c.self.inside.flags.items ++ true ∷ []) (set (shown_rows c.reach.new.self) (length c.self.inside.flags.items) c.args.edges.now) (c.self.inside.live + 1) (c.self.inside.pairs + length c.args.edges.now) =
    held_push c.self.inside.flags.items (shown_rows c.reach.new.self) c.self.inside.live c.self.inside.pairs c.args.edges.now w.0 l c.len-count.ensures.edges (omega (arith, q, c.if-row-ge-ADDITION_LIMIT.false)) (omega (arith, lv, sm, c.if-count-self.false)) (omega (arith, c.if-self-ge-TRACE_LIMIT.false)) in (
      c.in_ok-fill.ensures.kept,
      subst (λ (d : List Bool). IsHeld d (shown_rows c.fill.new.rows) (c.self.inside.live + 1) (c.self.inside.pairs + c.len-count.result)) (sym flags)
          (subst (λ (d : Rows). IsHeld (c.self.inside.flags.items ++ true ∷ []) d (c.self.inside.live + 1) (c.self.inside.pairs + c.len-count.result)) (sym filled)
          (subst (λ (k : ℕ). IsHeld (c.self.inside.flags.items ++ true ∷ []) (set (shown_rows c.reach.new.self) (length c.self.inside.flags.items) c.args.edges.now) (c.self.inside.live + 1) (c.self.inside.pairs + k)) (sym lv) h)),
    )

pub returns : goal.returns
returns c =
    let sm : c.self.inside.pairs ≤ 16777216 = c.self.invariant.1.small in
    let n : length c.args.self.now.traces ≡ c.self.inside.live = length_shown c.self.inside.flags.items (shown_rows c.self.inside.rows) c.args.self.now c.self.inside.live c.self.inside.pairs c.self.view_is c.self.invariant.1 in
    let p : pairs (sets_of c.args.self.now.traces) ≡ c.self.inside.pairs = pairs_shown c.self.inside.flags.items (shown_rows c.self.inside.rows) c.args.self.now c.self.inside.live c.self.inside.pairs c.self.view_is c.self.invariant.1 in
    let lv : c.len-count.result ≡ length c.args.edges.now = c.len-count.ensures.value in
    let nx : length c.self.inside.flags.items + 1 ≡ c.args.self.now.next = next_shown c.self.inside.flags.items (shown_rows c.self.inside.rows) c.args.self.now c.self.view_is in
    let q : c.len-row.result ≡ length c.self.inside.flags.items = c.len-row.ensures ∙ c.self.inside.flags.ok.0 in
    let f : refusal c.args.self.now c.args.edges.now ≡ None = not_refused c.args.self.now c.args.edges.now (omega (arith, n, c.if-self-ge-TRACE_LIMIT.false)) (omega (arith, p, lv, sm, c.if-count-self.false)) (omega (arith, q, nx, c.if-row-ge-ADDITION_LIMIT.false)) in
    let w : IsHeld c.self.inside.flags.items (shown_rows c.reach.new.self) c.self.inside.live c.self.inside.pairs × (traces_in c.self.inside.flags.items (shown_rows c.reach.new.self) ≡ traces_in c.self.inside.flags.items (shown_rows c.self.inside.rows)) = reached c.self.inside.flags.items (shown_rows c.self.inside.rows) (shown_rows c.reach.new.self) c.self.inside.live c.self.inside.pairs c.len-row.result (c.len-row.ensures ∙ c.self.inside.flags.ok.0) c.self.invariant.1 c.in_ok-reach.ensures.rows in
    let l : length (shown_rows c.reach.new.self) ≡ length c.self.inside.flags.items + 1 = one_behind c.self.inside.flags.items (shown_rows c.reach.new.self) c.self.inside.live c.self.inside.pairs c.len-row.result q w.0 c.in_ok-reach.ensures.ok in
    let filled : shown_rows c.fill.new.rows ≡ set (shown_rows c.reach.new.self) (length c.self.inside.flags.items) c.args.edges.now =
    c.in_ok-fill.ensures.ok ∙ ap (λ (d : List Edge). set (shown_rows c.reach.new.self) c.len-row.result d) c.as_slice.ensures.value ∙ ap (λ (i : ℕ). set (shown_rows c.reach.new.self) i c.args.edges.now) q in
    let flags : c.push_reserved.new.self.items ≡ c.self.inside.flags.items ++ true ∷ [] = c.push_reserved.ensures.items ∙ ap (λ (d : List Bool). d ++ true ∷ []) c.in_ok-reserve.ensures.items in (
      f,
      omega (arith, q, nx),
      ap (λ (d : List Bool). traces_in d (shown_rows c.fill.new.rows)) flags ∙ ap (traces_in (c.self.inside.flags.items ++ true ∷ [])) filled
          ∙ view_push c.self.inside.flags.items (shown_rows c.reach.new.self) c.args.edges.now l ∙ ap (λ (t : Traces). with_trace t c.args.edges.now) (w.1 ∙ c.self.view_is),
    )
