use Rattle.std.proofs.Common.{◌≡◌, ◌+◌, ◌∷◌, ◌++◌, [], length, drop, map, string_bytes, refl, sym, ◌∙◌, ap, arith, rules, lit≤, Vec, Global}
use Rattle.trace_file.specs.Edges.{pairs}
use Rattle.trace_file.specs.declared.edges.Edges.{Edges}
use Rattle.top_files.specs.TracesPart.{traces_part}
use Rattle.top_plan.proofs.Passes.{passes_on, runs_out}
use Rattle.top_files.proofs.TracesRun.{next_name, no_name, pushed, traces_begin, with_trace, traces_on, traces_fail, traces_done}
use Rattle.top_files.proofs.traces.fetch_traces.Goals as goal

pub loop-name-init : goal.loop-name-init
loop-name-init g c = record {
  place = omega arith;
  counted = ap pairs (sym c.new-traces.ensures.items);
  few = lit≤ tt;
  goes = λ w next o u went. traces_begin c.args.digest.now (map string_bytes c.args.names.now) c.args.word 0 c.new-traces.result.items next _ o u c.new-traces.ensures.items went;
}

pub returns-in_err-edges-clause-goes : goal.returns-in_err-edges-clause-goes
returns-in_err-edges-clause-goes g c w =
    let name = next_name string_bytes c.args.names.now c.loop-name.name-index c.name-item.result c.as_str.result.now c.loop-name-test.true c.name-item.is c.as_str.ensures.value in
    passes_on (λ (v : Vec Edges Global). v.items) (traces_part c.args.digest.now (map string_bytes c.args.names.now) c.args.word 0) _ _ _ c.from_residual.result
    (λ next. c.loop-name.invariant.goes w next _ _ (traces_fail c.args.digest.now _ (map string_bytes (drop (c.loop-name.name-index + 1) c.args.names.now)) c.loop-name.at c.loop-name.count c.as_str.result.now _ (λ rest. next (c.loop-name.traces.items ++ rest)) _ _ name (c.in_err-edges.ensures.goes w)))
    c.from_residual.ensures.1

pub returns-then-is_err-clause-goes : goal.returns-then-is_err-clause-goes
returns-then-is_err-clause-goes g c w next =
    let more = map string_bytes (drop (c.loop-name.name-index + 1) c.args.names.now) in
    let name = next_name string_bytes c.args.names.now c.loop-name.name-index c.name-item.result c.as_str.result.now c.loop-name-test.true c.name-item.is c.as_str.ensures.value in
    c.loop-name.invariant.goes w next _ _ (traces_on c.args.digest.now _ more c.loop-name.at c.loop-name.count (c.loop-name.at + 1) (c.loop-name.count + length c.in_ok-edges.edges) c.as_str.result.now c.in_ok-edges.edges c.loop-name.traces.items next _ _ _ _ name refl refl (c.in_ok-edges.ensures.goes w)
    (runs_out (traces_part c.args.digest.now more (c.loop-name.at + 1) (c.loop-name.count + length c.in_ok-edges.edges) (λ rest. next ((c.loop-name.traces.items ++ c.in_ok-edges.edges ∷ []) ++ rest))) _))

pub loop-name-preserved : goal.loop-name-preserved
loop-name-preserved g c =
    let more = map string_bytes (drop (c.loop-name.name-index + 1) c.args.names.now) in
    let name = next_name string_bytes c.args.names.now c.loop-name.name-index c.name-item.result c.as_str.result.now c.loop-name-test.true c.name-item.is c.as_str.ensures.value in
    let items : c.push.new.self.items ≡ c.loop-name.traces.items ++ c.in_ok-edges.edges ∷ [] = search rules in
    record {
      place = omega (arith, c.loop-name.invariant.place);
      counted = ap (λ n. c.loop-name.count + n) c.len-count.ensures.value ∙ (ap (λ n. n + length c.in_ok-edges.edges) c.loop-name.invariant.counted ∙ sym (ap pairs items ∙ pushed c.loop-name.traces.items c.in_ok-edges.edges));
      few = omega (arith, c.in_ok-edges.ensures.count, c.len-count.ensures.value);
      goes = λ w next o u went. c.loop-name.invariant.goes w next o u (traces_on c.args.digest.now _ more c.loop-name.at c.loop-name.count (c.loop-name.at + 1) (c.loop-name.count + c.len-count.result) c.as_str.result.now c.in_ok-edges.edges c.loop-name.traces.items next _ _ o u name refl (ap (λ n. c.loop-name.count + n) c.len-count.ensures.value) (c.in_ok-edges.ensures.goes w)
          (with_trace c.args.digest.now more (c.loop-name.at + 1) (c.loop-name.count + c.len-count.result) (c.loop-name.traces.items ++ c.in_ok-edges.edges ∷ []) c.push.new.self.items next _ o u items went));
    }

pub returns : goal.returns
returns g c = record {
  goes = λ w next o u went. c.loop-name.invariant.goes w next o u (traces_done c.args.digest.now _ c.loop-name.at c.loop-name.count c.loop-name.traces.items next _ o u (no_name string_bytes c.args.names.now c.loop-name.name-index c.loop-name-test.false) went);
  count = omega (arith, c.loop-name.invariant.counted, c.loop-name.invariant.few);
}
