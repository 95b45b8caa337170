use Rattle.std.proofs.Common.{◌≡◌, ℕ, ◌+◌, ◌-◌, ◌≤◌, Bool, false, List, [], length, get_or, set, refl, ap, sym, ◌∙◌, subst, arith}
use Rattle.trace_file.specs.Edges.{Edge, pairs}
use Rattle.trace_set.specs.Rows.{shown_rows}
use Rattle.trace_set.specs.Traces.{Traces, is_live, edges_of, without_number, live_from, traces_in, flag_of, IsHeld}
use Rattle.trace_set.proofs.Held.{row_fits, live_is, flag_place, live_some, held_without, view_without, edges_is}
use Rattle.trace_set.proofs.set.TraceSet.remove.Goals as goal

pub returns-then-not-is_set-clause-traces : goal.returns-then-not-is_set-clause-traces
returns-then-not-is_set-clause-traces g c = (
  ap (λ (t : Traces). is_live c.args.number t.traces) (sym c.self.view_is) ∙ live_is c.args.number c.self.inside.flags.items (shown_rows c.self.inside.rows) c.self.invariant.1.enough
      ∙ ap (λ (d : List Bool). flag_of d c.args.number) (sym c.as_slice.ensures.value) ∙ sym c.is_set.ensures ∙ c.if-not-is_set.true,
  refl,
)

pub overflow_sub-self : goal.overflow_sub-self
overflow_sub-self g c =
    let a : c.clear_row.result ≡ length (get_or (shown_rows c.self.inside.rows) (c.args.number - 1) []) = c.clear_row.ensures.count in
    let b : length (get_or (shown_rows c.self.inside.rows) (c.args.number - 1) []) ≤ pairs (shown_rows c.self.inside.rows) = row_fits (shown_rows c.self.inside.rows) (c.args.number - 1) in
    let d : pairs (shown_rows c.self.inside.rows) ≡ c.self.inside.pairs = c.self.invariant.1.counted in
    omega (arith, a, b, d)

pub overflow_sub-self-2 : goal.overflow_sub-self-2
overflow_sub-self-2 g c = live_some (c.args.number - 1) c.self.inside.flags.items (shown_rows c.self.inside.rows) c.self.inside.live c.self.inside.pairs c.self.invariant.1 (flag_place c.self.inside.flags.items c.args.number (ap (λ (d : List Bool). flag_of d c.args.number) (sym c.as_slice.ensures.value) ∙ sym c.is_set.ensures ∙ c.if-not-is_set.false)).0

pub invariant_of-self : goal.invariant_of-self
invariant_of-self g c =
    let a : c.clear_row.result ≡ length (get_or (shown_rows c.self.inside.rows) (c.args.number - 1) []) = c.clear_row.ensures.count in
    let b : length (get_or (shown_rows c.self.inside.rows) (c.args.number - 1) []) ≤ pairs (shown_rows c.self.inside.rows) = row_fits (shown_rows c.self.inside.rows) (c.args.number - 1) in
    let d : pairs (shown_rows c.self.inside.rows) ≡ c.self.inside.pairs = c.self.invariant.1.counted in
    let l : 1 ≤ c.self.inside.live = live_some (c.args.number - 1) c.self.inside.flags.items (shown_rows c.self.inside.rows) c.self.inside.live c.self.inside.pairs c.self.invariant.1 (flag_place c.self.inside.flags.items c.args.number (ap (λ (d : List Bool). flag_of d c.args.number) (sym c.as_slice.ensures.value) ∙ sym c.is_set.ensures ∙ c.if-not-is_set.false)).0 in (
      c.clear_row.ensures.kept,
      subst (λ (rows : List (List Edge)). IsHeld (set c.self.inside.flags.items (c.args.number - 1) false) rows (c.self.inside.live - 1) (c.self.inside.pairs - c.clear_row.result)) (sym c.clear_row.ensures.rows)
          (held_without (c.args.number - 1) c.self.inside.flags.items (shown_rows c.self.inside.rows) c.self.inside.live c.self.inside.pairs (c.self.inside.live - 1) (c.self.inside.pairs - c.clear_row.result) c.self.invariant.1 (flag_place c.self.inside.flags.items c.args.number (ap (λ (d : List Bool). flag_of d c.args.number) (sym c.as_slice.ensures.value) ∙ sym c.is_set.ensures ∙ c.if-not-is_set.false)).0 (omega (arith, l)) (omega (arith, a, b, d))),
    )

pub returns-clause-traces : goal.returns-clause-traces
returns-clause-traces g c =
    let on = (flag_place c.self.inside.flags.items c.args.number (ap (λ (d : List Bool). flag_of d c.args.number) (sym c.as_slice.ensures.value) ∙ sym c.is_set.ensures ∙ c.if-not-is_set.false)) in (
      ap (λ (t : Traces). is_live c.args.number t.traces) (sym c.self.view_is) ∙ live_is c.args.number c.self.inside.flags.items (shown_rows c.self.inside.rows) c.self.invariant.1.enough
          ∙ ap (λ (d : List Bool). flag_of d c.args.number) (sym c.as_slice.ensures.value) ∙ sym c.is_set.ensures ∙ c.if-not-is_set.false,
      ap (traces_in (set c.self.inside.flags.items (c.args.number - 1) false)) c.clear_row.ensures.rows
          ∙ view_without (c.args.number - 1) c.self.inside.flags.items (shown_rows c.self.inside.rows) on.0 c.self.invariant.1.enough
          ∙ ap (λ (n : ℕ). record (traces_in c.self.inside.flags.items (shown_rows c.self.inside.rows)) { traces = without_number n (live_from 0 c.self.inside.flags.items (shown_rows c.self.inside.rows)) }) on.1
          ∙ ap (λ (t : Traces). record t { traces = without_number c.args.number t.traces }) c.self.view_is,
    )

pub returns-clause-few : goal.returns-clause-few
returns-clause-few g c =
    let on = (flag_place c.self.inside.flags.items c.args.number (ap (λ (d : List Bool). flag_of d c.args.number) (sym c.as_slice.ensures.value) ∙ sym c.is_set.ensures ∙ c.if-not-is_set.false)) in
    let a : c.clear_row.new.steps ≡ c.args.steps.now + length (get_or (shown_rows c.self.inside.rows) (c.args.number - 1) []) = c.clear_row.ensures.steps in
    let e : edges_of c.args.number c.args.self.now.traces ≡ get_or (shown_rows c.self.inside.rows) (c.args.number - 1) [] =
    ap (λ (t : Traces). edges_of c.args.number t.traces) (sym c.self.view_is)
    ∙ ap (λ (n : ℕ). edges_of n (live_from 0 c.self.inside.flags.items (shown_rows c.self.inside.rows))) (sym on.1)
    ∙ edges_is (c.args.number - 1) c.self.inside.flags.items (shown_rows c.self.inside.rows) on.0 c.self.invariant.1.enough in
    let l : length (edges_of c.args.number c.args.self.now.traces) ≡ length (get_or (shown_rows c.self.inside.rows) (c.args.number - 1) []) = ap length e in
    omega (arith, a, l)
