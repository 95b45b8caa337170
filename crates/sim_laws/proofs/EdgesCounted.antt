-- Edges that lead to code count, and lead to known exits.
use Rattle.std.proofs.Common.{◌≡◌, ℕ, zero, suc, ◌==◌, Bool, true, false, ◌&&◌, ◌||◌, [], ◌∷◌, IsTrue, refl, sym, ap, ◌∙◌, subst, arith}
use Rattle.std.proofs.lemmas.Bool.Decides.{nat_tests}
use Rattle.std.proofs.lemmas.List.Elements.{All-nil, All-cons, All-append}
use Rattle.br_word.specs.State.{State, RunState, Running, Exited, Faulted}
use Rattle.elf_read.specs.declared.exe.Exe.{Exe}
use Rattle.elf_read.specs.Elf.{is_exec}
use Rattle.ia_inst.specs.declared.inst.Inst.{Inst}
use Rattle.ia_inst.specs.declared.inst.Kind.{Kind}
use Rattle.ia_inst.specs.declared.inst.Kind.TheVariants.{Plain, Island, Transfer}
use Rattle.ia_inst.specs.Kinds.{kind_of}
use Rattle.ia_inst.specs.Step.{Found, NoCode, NoInst, There, found, result_at, step_result, step}
use Rattle.ia_inst.specs.System.{StepResult, On, Bad}
use Rattle.block_cut.specs.Places.{found_at}
use Rattle.block_cut.specs.Transfers.{leads_by, leads_to}
use Rattle.block_cut.specs.CountedEdges.{is_beginning, counts}
use Rattle.run_model.specs.Edges.{Edge, is_transfer_kind, edge_by, edge_at, edge_of, edges_from}
use Rattle.run_model.specs.Opening.{exe_or_none, guest_of, opening_of}
use Rattle.sim_laws.specs.ByKind.{GoesBy, EachGoesByKind}
use Rattle.sim_laws.specs.InCode.{IsStateOf, StaysInCode, StepsInCode}
use Rattle.sim_laws.specs.Counted.{AllCount, EdgesCount}

module _ (exe : Exe) where
  abbrev pub Counted : Edge → Type 0
  Counted e = IsTrue (is_exec e.1 exe.segments) → IsTrue (counts exe e)

  counted : (e : Edge) → (is_beginning exe e || leads_to exe e.0 e.1) ≡ true → Counted e
  unfolding counts
  counted e h x = ap (λ b. b && (is_beginning exe e || leads_to exe e.0 e.1)) x ∙ h

  led : (b c : Bool) → c ≡ true → (b || c) ≡ true
  led true c e = refl
  led false c e = e

  pub edge_counts : EachGoesByKind → (s : State) (c : ℕ) → IsStateOf exe s → AllCount exe (edge_of s.stop s c)
  edge_counts by s c h = by_stop s.stop
    where
      by_way : (i : Inst) (n : ℕ) (w : StepResult) → kind_of i ≡ Transfer → found_at exe s.eip ≡ There i n → result_at (There i n) s c ≡ w → AllCount exe (edge_by true w s.eip)
      by_way i n (On t) k f w =
          let goes : GoesBy Transfer i n s t = subst (λ k. GoesBy k i n s t) k (by i n s t c w) in
          All-cons Counted (s.eip, t.eip) [] (counted (s.eip, t.eip) (led _ _ (ap (λ f. leads_by f s.eip t.eip) f ∙ goes.0))) (All-nil Counted)
      by_way i n (Bad v) k f w = All-nil Counted

      by_kind : (i : Inst) (n : ℕ) (k : Kind) → kind_of i ≡ k → found s.eip s.regions ≡ There i n → AllCount exe (edge_by (is_transfer_kind k) (step_result s c) s.eip)
      by_kind i n Plain k f = All-nil Counted
      by_kind i n Island k f = All-nil Counted
      by_kind i n Transfer k f = by_way i n (step_result s c) k (sym (h.code s.eip) ∙ f) (ap (λ f. result_at f s c) (sym f))

      by_found : (f : Found) → found s.eip s.regions ≡ f → AllCount exe (edge_at f s c)
      by_found NoCode e = All-nil Counted
      by_found NoInst e = All-nil Counted
      by_found (There i n) e = by_kind i n (kind_of i) refl e

      by_stop : (stop : RunState) → AllCount exe (edge_of stop s c)
      by_stop Running = by_found (found s.eip s.regions) refl
      by_stop (Exited n) = All-nil Counted
      by_stop (Faulted f) = All-nil Counted

  module _ (steps : (s : State) (c : ℕ) → IsStateOf exe s → IsStateOf exe (step s c)) where
    run_counts : EachGoesByKind → (n : ℕ) (s : State) → IsStateOf exe s → AllCount exe (edges_from n s)
    run_counts by zero s h = All-nil Counted
    run_counts by (suc n) s h = All-append Counted (edge_of s.stop s 0) (edges_from n (step s 0)) (edge_counts by s 0 h) (run_counts by n (step s 0) (steps s 0 h))

  beginning_counts : AllCount exe ((0, exe.entry) ∷ [])
  beginning_counts = All-cons Counted (0, exe.entry) [] (counted (0, exe.entry) (ap (λ b. b || leads_to exe 0 exe.entry) (same exe.entry))) (All-nil Counted)
    where
      same : (x : ℕ) → (0 == 0 && x == x) ≡ true
      same x = grind (arith, nat_tests)

-- ---- a run

pub run_edges_count : EachGoesByKind → StaysInCode → StepsInCode → EdgesCount
run_edges_count by stays steps file exe words input n accepted h =
    let start = subst (λ (x : Exe). AllCount exe ((0, x.entry) ∷ [])) (ap exe_or_none (sym accepted)) (beginning_counts exe) in
    All-append (Counted exe) ((0, (guest_of file).entry) ∷ []) (edges_from n (opening_of file words input)) start
    (run_counts exe (steps exe) by n (opening_of file words input) (stays file exe words input [] 0 accepted h))
