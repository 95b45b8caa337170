-- What an indirect transfer of a copy meets in code, where its edge is one of those kept to.
use Rattle.std.proofs.Common.{◌≡◌, Bool, true, false, ◌&&◌, ◌||◌, List, [], ◌∷◌, ◌++◌, Contains, refl, sym, ap, ◌∙◌, subst, ⊎_elim, ◌⊎◌, inl, inr}
use Rattle.std.specs.Prelude.{if◌then◌else◌}
use Rattle.br_word.specs.State.{State, Running}
use Rattle.elf_read.specs.declared.exe.Exe.{Exe}
use Rattle.elf_read.specs.Elf.{IsGuest, is_exec}
use Rattle.elf_read.specs.Code.{code_at}
use Rattle.ia_inst.specs.Instructions.{decode_of}
use Rattle.ia_inst.specs.System.{StepResult, On, Bad}
use Rattle.ia_inst.specs.Step.{NoCode, There, found_from, result_at, step_result, settled, unless_stopped, step, NoFault, IsWellDefined}
use Rattle.run_model.specs.Edges.{Edge, is_transfer_kind, edge_by, edge_at, edge_of}
use Rattle.block_cut.specs.Places.{found_at}
use Rattle.block_cut.specs.Transfers.{direct_targets, is_among, leads_by, leads_to}
use Rattle.block_cut.specs.CountedEdges.{is_beginning, counts}
use Rattle.flow_graph.specs.GraphOf.{OneGraph}
use Rattle.sim_laws.specs.Covers.{AllIn}
use Rattle.sim_runs.specs.Laws.{IsIndirect}
use Rattle.sim_runs.specs.Recovered.{is_start_of}
use Rattle.sim_runs.specs.Promised.{IsOf}
use Rattle.sim_runs.proofs.Known.{in_either, counted_starts}

-- a step that does not fault leads on
pub step_on : (s : State) → s.stop ≡ Running → IsWellDefined s → step_result s 0 ≡ On (step s 0)
unfolding step
step_on s r f = by_way (step_result s 0) refl (f.no_fault r)
  where
    by_way : (w : StepResult) → step_result s 0 ≡ w → NoFault w → step_result s 0 ≡ On (step s 0)
    by_way (On t) e k =
        let is : step s 0 ≡ t = ap (λ stop. unless_stopped stop s (settled (step_result s 0) s)) r ∙ ap (λ w. settled w s) e in
        e ∙ ap On (sym is)
    by_way (Bad v) e k = absurd k

-- its edge, where it is a transfer
indirect_edge : (s : State) → s.stop ≡ Running → IsWellDefined s → IsIndirect s → edge_of s.stop s 0 ≡ (s.eip, (step s 0).eip) ∷ []
indirect_edge s r f i =
    ap (λ stop. edge_of stop s 0) r
    ∙ ap (λ f. edge_at f s 0) i.here
    ∙ ap (λ k. edge_by (is_transfer_kind k) (step_result s 0) s.eip) i.kind
    ∙ ap (λ w. edge_by true w s.eip) (step_on s r f)

-- code stands where a step is well defined
pub runs_in_code : (exe : Exe) (s : State) → IsOf exe s → s.stop ≡ Running → IsWellDefined s → is_exec s.eip exe.segments ≡ true
unfolding found_at
runs_in_code exe s h r w = go (is_exec s.eip exe.segments) refl (subst (λ f. NoFault (result_at f s 0)) (h.state.code s.eip) (w.no_fault r))
  where
    go : (b : Bool) → is_exec s.eip exe.segments ≡ b → NoFault (result_at (if b then found_from (decode_of (code_at s.eip exe.segments)) else NoCode) s 0) → is_exec s.eip exe.segments ≡ true
    go true e k = e
    go false e k = absurd k

both : (a b : Bool) → a ≡ true → b ≡ true → (a && b) ≡ true
both true true h k = refl
both true false h k = k
both false b h k = h

second : (a b : Bool) → b ≡ true → (a || b) ≡ true
second true b h = refl
second false b h = h

-- it counts
indirect_counts : (exe : Exe) (s t : State) → IsOf exe s → IsOf exe t → t.stop ≡ Running → IsWellDefined t → IsIndirect s → counts exe (s.eip, t.eip) ≡ true
unfolding counts
indirect_counts exe s t h k r w i =
    let here : found_at exe s.eip ≡ There i.inst i.len = sym (h.state.code s.eip) ∙ i.here in
    let leads : leads_to exe s.eip t.eip ≡ true = ap (λ f. leads_by f s.eip t.eip) here ∙ ap (λ b. b || is_among (direct_targets i.inst i.len s.eip) t.eip) i.indirect in
    both (is_exec t.eip exe.segments) (is_beginning exe (s.eip, t.eip) || leads_to exe s.eip t.eip) (runs_in_code exe t k r w) (second (is_beginning exe (s.eip, t.eip)) (leads_to exe s.eip t.eip) leads)

-- so it leads to a start, or is one of the further edges
pub indirect_met : OneGraph → (exe : Exe) → IsGuest exe → (edges further : List Edge) (s : State) → IsOf exe s → s.stop ≡ Running → IsWellDefined s → AllIn (edges ++ further) (edge_of s.stop s 0) → IsIndirect s
    → IsOf exe (step s 0) → (step s 0).stop ≡ Running → IsWellDefined (step s 0)
    → (is_start_of exe edges (step s 0).eip ≡ true) ⊎ Contains further (s.eip, (step s 0).eip)
indirect_met one exe guest edges further s h r f kept i k goes w =
    let has = (subst (AllIn (edges ++ further)) (indirect_edge s r f i) kept).0 in
    ⊎_elim
    (λ (c : Contains edges (s.eip, (step s 0).eip)). inl (counted_starts one exe guest edges (s.eip, (step s 0).eip) c (indirect_counts exe s (step s 0) h k goes w i)))
    (λ (c : Contains further (s.eip, (step s 0).eip)). inr c)
    (in_either edges further (s.eip, (step s 0).eip) has)
