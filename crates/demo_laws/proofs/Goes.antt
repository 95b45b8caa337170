-- Well-defined runs from one state to another, one behind the other.
use Rattle.std.proofs.Common.{◌≡◌, ℕ, zero, suc, ◌+◌, ◌-◌, ◌<◌, ◌≤◌, Bool, true, List, [], ◌++◌, drop, Some, ◌⊎◌, inl, inr, refl, sym, ap, ◌∙◌, subst, arith, append-nil}
use Rattle.br_word.specs.Memory.{Region, load, store}
use Rattle.br_word.specs.State.{State, RunState, Running, Exited, Faulted, Flag, flag_of}
use Rattle.ia_inst.specs.declared.inst.Inst.{Inst}
use Rattle.ia_inst.specs.Act.{Load, Store, Ask, Ends, Changes, NextEip, flags_after, marks_after, or_denied, or_none, perform, asked}
use Rattle.ia_inst.specs.Meaning.{no_changes}
use Rattle.ia_inst.specs.System.{On}
use Rattle.ia_inst.specs.Step.{There, found, next_eip, result_of, act_of, result_at, step_result, asked_at, settled, unless_stopped, step, AllMarked, NoFault}
use Rattle.run_model.specs.Edges.{Edge, is_transfer, edge_by, edge_at, edge_of, edges_from}
use Rattle.run_model.specs.Run.{run, WellDefined}
use Rattle.run_model.specs.Split.{RunsSplit, EdgesSplit, WellDefinedSplits}

-- so many well-defined steps lead from one state to another, run until then, and give these edges
pub record Goes (m : ℕ) (s t : State) (es : List Edge) : Type 0 where
  pub defined : WellDefined m s
  pub comes : run m s [] ≡ t
  pub edges : edges_from m s ≡ es
  pub before : (k : ℕ) → k < m → (run k s []).stop ≡ Running

pub stays_here : (s : State) → Goes 0 s s []
stays_here s = record { defined = tt; comes = refl; edges = refl; before = λ k h. absurd (omega (arith, h)) }

module _ (splits : RunsSplit) (joins : EdgesSplit) (both : WellDefinedSplits) where
  pub no_choice : (n : ℕ) → let none : List ℕ = [] in drop n none ≡ none
  no_choice zero = refl
  no_choice (suc n) = refl

  pub behind : (m n : ℕ) (s t u : State) (es fs : List Edge) → Goes m s t es → Goes n t u fs → Goes (m + n) s u (es ++ fs)
  behind m n s t u es fs g h = record {
    defined = (both m n s).1 (g.defined, subst (WellDefined n) (sym g.comes) h.defined);
    comes = splits m n s [] ∙ ap (λ cs. run n (run m s []) cs) (no_choice m) ∙ ap (λ t. run n t []) g.comes ∙ h.comes;
    edges = joins m n s ∙ ap (λ t. edges_from m s ++ edges_from n t) g.comes ∙ ap (λ es. es ++ edges_from n t) g.edges ∙ ap (λ fs. es ++ fs) h.edges;
    before = λ k l. either k l (below k m);
  }
    where
      below : (k m : ℕ) → (k < m) ⊎ (m ≤ k)
      below k m = grind arith

      either : (k : ℕ) → k < m + n → (k < m) ⊎ (m ≤ k) → (run k s []).stop ≡ Running
      either k l (inl a) = g.before k a
      either k l (inr b) =
          let e : k ≡ m + (k - m) = omega (arith, b) in
          ap (λ k. (run k s []).stop) e ∙ ap (λ t. t.stop) (splits m (k - m) s []) ∙ ap (λ cs. (run (k - m) (run m s []) cs).stop) (no_choice m) ∙ ap (λ t. (run (k - m) t []).stop) g.comes ∙ h.before (k - m) (omega (arith, l, b))

-- ---- one step

pub one_step : (s t : State) (i : Inst) (n : ℕ) → s.stop ≡ Running → found s.eip s.regions ≡ There i n → result_at (There i n) s 0 ≡ On t → AllMarked s.cpu.marks (asked_at (There i n) s) → Goes 1 s t (edge_by (is_transfer i) (On t) s.eip)
unfolding step
one_step s t i n runs e r m = record {
  defined = (record { no_fault = λ _. subst NoFault (sym res) tt; marked = λ _. subst (λ f. AllMarked s.cpu.marks (asked_at f s)) (sym e) m }, tt);
  comes = next;
  edges = append-nil (edge_of s.stop s 0) ∙ ap (λ o. edge_of o s 0) runs ∙ ap (λ f. edge_at f s 0) e ∙ ap (λ r. edge_by (is_transfer i) r s.eip) res;
  before = λ k l. only k l;
}
  where
    res : step_result s 0 ≡ On t
    res = ap (λ f. result_at f s 0) e ∙ r

    next : step s 0 ≡ t
    next = ap (λ o. unless_stopped o s (settled (step_result s 0) s)) runs ∙ ap (λ r. settled r s) res

    only : (k : ℕ) → k < 1 → (run k s []).stop ≡ Running
    only zero l = runs
    only (suc k) l = absurd (omega (arith, l))

-- where an act leads that ends so
abbrev pub ended : State → List ℕ → Changes → NextEip → List Region → State
ended s regs ch to rs = record s {
  eip = next_eip to s.eip;
  cpu = record { regs = regs; df = s.cpu.df; flags = flags_after ch s.cpu.flags 0; marks = marks_after ch s.cpu.marks };
  regions = rs;
}

abbrev Edges : Inst → State → State → List Edge
Edges i s t = edge_by (is_transfer i) (On t) s.eip

pub by_end : (s : State) (i : Inst) (n : ℕ) (regs : List ℕ) (ch : Changes) (to : NextEip) → s.stop ≡ Running → found s.eip s.regions ≡ There i n → act_of i n s ≡ Ends regs s.cpu.df ch to → Goes 1 s (ended s regs ch to s.regions) (Edges i s (ended s regs ch to s.regions))
by_end s i n regs ch to runs f e =
    one_step s (ended s regs ch to s.regions) i n runs f
    (ap (λ a. result_of (perform a 0 s.cpu s.regions) s) e)
    (subst (λ a. AllMarked s.cpu.marks (asked a s.cpu.flags s.regions)) (sym e) tt)

pub by_store : (s : State) (i : Inst) (n at v : ℕ) (rs : List Region) (regs : List ℕ) (to : NextEip) → s.stop ≡ Running → found s.eip s.regions ≡ There i n → act_of i n s ≡ Store at 4 v (Ends regs s.cpu.df no_changes to) → store at 4 v s.regions ≡ Some rs → Goes 1 s (ended s regs no_changes to rs) (Edges i s (ended s regs no_changes to rs))
by_store s i n at v rs regs to runs f e st =
    one_step s (ended s regs no_changes to rs) i n runs f
    (ap (λ a. result_of (perform a 0 s.cpu s.regions) s) e ∙ ap (λ o. result_of (or_denied at o (λ rs. perform (Ends regs s.cpu.df no_changes to) 0 s.cpu rs)) s) st)
    (subst (λ a. AllMarked s.cpu.marks (asked a s.cpu.flags s.regions)) (sym e) (subst (λ o. AllMarked s.cpu.marks (or_none o (λ rs. asked (Ends regs s.cpu.df no_changes to) s.cpu.flags rs))) (sym st) tt))

pub by_load : (s : State) (i : Inst) (n at v : ℕ) (regs : ℕ → List ℕ) (to : ℕ → NextEip) → s.stop ≡ Running → found s.eip s.regions ≡ There i n → act_of i n s ≡ Load at 4 (λ v. Ends (regs v) s.cpu.df no_changes (to v)) → load at 4 s.regions ≡ Some v → Goes 1 s (ended s (regs v) no_changes (to v) s.regions) (Edges i s (ended s (regs v) no_changes (to v) s.regions))
by_load s i n at v regs to runs f e ld =
    one_step s (ended s (regs v) no_changes (to v) s.regions) i n runs f
    (ap (λ a. result_of (perform a 0 s.cpu s.regions) s) e ∙ ap (λ o. result_of (or_denied at o (λ v. perform (Ends (regs v) s.cpu.df no_changes (to v)) 0 s.cpu s.regions)) s) ld)
    (subst (λ a. AllMarked s.cpu.marks (asked a s.cpu.flags s.regions)) (sym e) (subst (λ o. AllMarked s.cpu.marks (or_none o (λ v. asked (Ends (regs v) s.cpu.df no_changes (to v)) s.cpu.flags s.regions))) (sym ld) tt))

pub by_ask : (s : State) (i : Inst) (n : ℕ) (f : Flag) (regs : List ℕ) (to : Bool → NextEip) → s.stop ≡ Running → found s.eip s.regions ≡ There i n → act_of i n s ≡ Ask f (λ b. Ends regs s.cpu.df no_changes (to b)) → flag_of f s.cpu.marks ≡ true → Goes 1 s (ended s regs no_changes (to (flag_of f s.cpu.flags)) s.regions) (Edges i s (ended s regs no_changes (to (flag_of f s.cpu.flags)) s.regions))
by_ask s i n f regs to runs fd e m =
    one_step s (ended s regs no_changes (to (flag_of f s.cpu.flags)) s.regions) i n runs fd
    (ap (λ a. result_of (perform a 0 s.cpu s.regions) s) e)
    (subst (λ a. AllMarked s.cpu.marks (asked a s.cpu.flags s.regions)) (sym e) (m, tt))

-- ---- a guest that has exited

abbrev Stopped : RunState → Type 0
Stopped Running = ⊥
Stopped (Exited n) = Unit {0}
Stopped (Faulted f) = Unit {0}

no_step : (s : State) (k c : ℕ) → s.stop ≡ Exited k → step s c ≡ s
unfolding step
no_step s k c e = ap (λ o. unless_stopped o s (settled (step_result s c) s)) e

not_running : (s : State) (k : ℕ) → s.stop ≡ Exited k → s.stop ≡ Running → ⊥
not_running s k e r = subst Stopped (sym e ∙ r) tt

-- it stays so
pub record Rests (n : ℕ) (s : State) : Type 0 where
  pub defined : WellDefined n s
  pub comes : run n s [] ≡ s
  pub edges : edges_from n s ≡ []

pub rests : (n : ℕ) (s : State) (k : ℕ) → s.stop ≡ Exited k → Rests n s
rests zero s k e = record { defined = tt; comes = refl; edges = refl }
rests (suc n) s k e =
    let r = rests n s k e in
    let f = no_step s k 0 e in
    record {
      defined = (record { no_fault = λ x. absurd (not_running s k e x); marked = λ x. absurd (not_running s k e x) }, subst (WellDefined n) (sym f) r.defined);
      comes = ap (λ t. run n t []) f ∙ r.comes;
      edges = ap (λ o. edge_of o s 0 ++ edges_from n (step s 0)) e ∙ ap (edges_from n) f ∙ r.edges;
    }
