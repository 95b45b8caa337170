-- Each turn of a copy, from the laws of one instruction.
use Rattle.std.proofs.Common.{◌≡◌, ℕ, zero, suc, ◌+◌, ◌-◌, ◌<◌, ◌≤◌, Bool, true, false, List, [], ◌||◌, refl, sym, ap, ◌∙◌, subst, arith, ⊎_elim, ◌⊎◌, inl, inr, None}
use Rattle.std.proofs.lemmas.Bool.{cases_lt, true≢false}
use Rattle.std.specs.Prelude.{length}
use Rattle.par_moves.specs.Homes.{register_homes}
use Rattle.fall_stubs.specs.Exchange.{closing_items}
use Rattle.ia_encode.specs.declared.item.Dest.TheVariants as dests
use Rattle.ia_encode.specs.Items.{Stands}
use Rattle.br_word.specs.State.{State, RunState, Running, Exited, Faulted}
use Rattle.elf_read.specs.declared.exe.Exe.{Exe}
use Rattle.ia_inst.specs.declared.inst.Kind.TheVariants as kinds
use Rattle.ia_inst.specs.Meaning.{wrap}
use Rattle.ia_inst.specs.System.{On}
use Rattle.ia_inst.specs.Step.{Found, NoCode, NoInst, There, result_at, step, NoFault, IsWellDefined}
use Rattle.run_model.specs.Run.{Observation, observed, run}
use Rattle.block_cut.specs.Places.{Placed, found_at}
use Rattle.block_cut.specs.Blocks.{kind_found}
use Rattle.block_cut.specs.Transfers.{direct_targets, is_among, is_indirect}
use Rattle.sim_laws.specs.ByKind.{GoesBy, EachGoesByKind}
use Rattle.sim_runs.specs.Forward.{after}
use Rattle.sim_runs.specs.Relation.{Plan, InPlace, InCopy, IsOver}
use Rattle.sim_runs.specs.Laws.{Leads, Turned, After, in_place, lands, leaves, stops, IsIndirect}
use Rattle.sim_runs.specs.Laws.{Landed as Comes_to, nowhere, in_block as to_block, in_copy as to_copy}
use Rattle.sim_runs.specs.Promised.{IsOf}
use Rattle.sim_runs.proofs.Runs.{run_on}
use Rattle.sim_runs.proofs.Indirect.{step_on, runs_in_code}
use Rattle.sim_runs.proofs.Moves.{captured_block}
use Rattle.sim_runs.specs.Image.{Capturable}
use Rattle.sim_runs.specs.Relation.{Ready}
use Rattle.piece_laws.specs.Exchange.{EntersJoined}
use Rattle.cold_laws.specs.Copies.{Copies}
use Rattle.cold_laws.specs.InPlace.{Landed, in_block, in_copy, in_original, TurnInPlace, StepsInPlace}
use Rattle.cold_laws.specs.Ends.{EndsInPlace}
use Rattle.cold_laws.specs.Turns.{Leads_on, Stood, Ended, CopiesStand, CopiesTurn, Reentry, BeyondLands}

-- where nothing is read, no step is well defined
no_step : (exe : Exe) (s : State) → IsOf exe s → s.stop ≡ Running → kind_found (found_at exe s.eip) ≡ None → IsWellDefined s → ⊥
no_step exe s h r n w = by (found_at exe s.eip) n (subst (λ f. NoFault (result_at f s 0)) (h.state.code s.eip) (w.no_fault r))
  where
    by : (f : Found) → kind_found f ≡ None → NoFault (result_at f s 0) → ⊥
    by NoCode n k = k
    by NoInst n k = k
    by (There i m) n k = cc

over_or : (s : State) → (s.stop ≡ Running) ⊎ IsOver s.stop
over_or s = go s.stop refl
  where
    go : (r : RunState) → s.stop ≡ r → (s.stop ≡ Running) ⊎ IsOver s.stop
    go Running e = inl e
    go (Exited n) e = inr (subst IsOver (sym e) tt)
    go (Faulted f) e = inr (subst IsOver (sym e) tt)

neither : (a b : Bool) → a ≡ false → b ≡ false → (a || b) ≡ true → ⊥
neither true b e f h = true≢false e
neither false b e f h = true≢false (sym h ∙ f)

module _ (by_kind : EachGoesByKind) (exe : Exe) (plan : Plan) (copies : Copies) (steps : StepsInPlace) (ends : EndsInPlace) (all : CopiesStand plan copies exe) where
  -- landed, where an address in code is a start or cold
  closed : (s t : State) → IsOf exe s → s.stop ≡ Running → (IsWellDefined s → (plan.is_start s.eip || copies.cold s.eip) ≡ true) → Landed plan copies exe s.eip s t → Comes_to plan (IsOf exe) s t
  closed s t h r c (in_block b) = to_block s.eip b
  closed s t h r c (in_copy k p) = to_copy (all.cold s.eip ∙ k) (subst (λ at. InPlace plan at s t) (sym (all.copy s.eip 0)) p)
  closed s t h r c (in_original why own size w) = ⊎_elim
      (λ (n : (plan.is_start s.eip ≡ false) × (copies.cold s.eip ≡ false)). nowhere (λ f. neither _ _ n.0 n.1 (c f)) (ap observed w.same))
      (λ (d : IsWellDefined s → ⊥). nowhere d (ap observed w.same))
      why

  -- landed behind an indirect transfer
  by_indirect : (before s t : State) → s.stop ≡ Running → IsIndirect before → Landed plan copies exe s.eip s t → After plan (IsOf exe) before s t
  by_indirect before s t r i (in_block b) = lands r (to_block s.eip b)
  by_indirect before s t r i (in_copy k p) = lands r (to_copy (all.cold s.eip ∙ k) (subst (λ at. InPlace plan at s t) (sym (all.copy s.eip 0)) p))
  by_indirect before s t r i (in_original why own size w) = ⊎_elim
      (λ (n : (plan.is_start s.eip ≡ false) × (copies.cold s.eip ≡ false)). leaves i r n.0 (all.cold s.eip ∙ n.1) own size w)
      (λ (d : IsWellDefined s → ⊥). lands r (nowhere d (ap observed w.same)))
      why

  module _ (x k : ℕ) (s t : State) (cs : List ℕ) (h : InCopy plan (IsOf exe) x k s t) (f : IsWellDefined s) (next : IsOf exe (step s 0)) where
    abbrev p : Placed
    p = all.placed x k

    abbrev s1 : State
    s1 = step s 0

    eip : s.eip ≡ p.at
    eip = h.eip ∙ sym (all.at x k)

    here : found_at exe p.at ≡ There p.inst p.size
    here = all.found x k h.cold h.within

    stands : InPlace plan (copies.place x k) s t
    stands = subst (λ at. InPlace plan at s t) (all.copy x k) h.stands

    seen : observed t ≡ observed s
    seen = ap observed h.stands.wider.same

    -- a transfer
    ended : Ended plan copies exe x k p → Turned plan (IsOf exe) 130 s t cs
    ended e =
        let way : result_at (There p.inst p.size) s 0 ≡ On s1 = ap (λ f. result_at f s 0) (sym (h.static.state.code s.eip ∙ ap (found_at exe) eip ∙ here)) ∙ step_on s h.goes f in
        let g : GoesBy kinds.Transfer p.inst p.size s s1 = subst (λ k. GoesBy k p.inst p.size s s1) e.kind (by_kind p.inst p.size s s1 0 way) in
        let r : s1.stop ≡ Running = ap (λ (z : Observation). z.stop) g.2.seen ∙ h.goes in
        let l = ends exe plan copies e.dest p (copies.place x k) e.to s t cs all.code all.homes all.low_starts h.static h.goes f eip here e.kind e.valid e.is e.stands all.dispatches stands in
        let behind : (b : Bool) → is_indirect p.inst ≡ b → After plan (IsOf exe) s s1 (run l.steps t cs) = λ b.
        to_after e g r (run l.steps t cs) l.there b in
        record {
          steps = l.steps;
          going = l.going;
          bound = omega (arith, l.bound);
          shows = λ i n. (0, omega arith, l.shows i n ∙ seen);
          inside = l.inside;
          next = behind (is_indirect p.inst) refl;
        }
      where
        to_after : (e : Ended plan copies exe x k p) → GoesBy kinds.Transfer p.inst p.size s s1 → s1.stop ≡ Running → (u : State) → Landed plan copies exe s1.eip s1 u → (b : Bool) → is_indirect p.inst ≡ b → After plan (IsOf exe) s s1 u
        to_after e g r u l true i = by_indirect s s1 u r (record { inst = p.inst; len = p.size; here = h.static.state.code s.eip ∙ ap (found_at exe) eip ∙ here; kind = e.kind; indirect = i }) l
        to_after e g r u l false i =
            let there : is_among (direct_targets p.inst p.size p.at) s1.eip ≡ true = subst (λ a. is_among (direct_targets p.inst p.size a) s1.eip ≡ true) eip (sym (ap (λ b. b || is_among (direct_targets p.inst p.size s.eip) s1.eip) i) ∙ g.0) in
            lands r (closed s1 u next r (λ f. e.landing s1.eip there (runs_in_code exe s1 next r f)) l)

    -- another instruction
    stood : Stood plan copies exe x k p → Turned plan (IsOf exe) 130 s t cs
    stood e =
        let z = steps exe plan e.dest p (copies.place x k) e.to s t cs all.code h.static h.goes f eip here e.kind e.stands stands in
        ⊎_elim
        (λ (r : s1.stop ≡ Running). ⊎_elim
        (λ (a : (s1.eip ≡ s.eip) × (z.place ≡ copies.place x k)). short z (in_place x k (record { cold = h.cold; within = h.within; eip = a.0 ∙ h.eip; goes = r; static = next; stands = subst (λ at. InPlace plan at s1 (run z.steps t cs)) (a.1 ∙ sym (all.copy x k)) z.next })))
        (λ (a : (s1.eip ≡ wrap (s.eip + p.size)) × (z.place ≡ e.to)).
        let at : s1.eip ≡ wrap (p.at + p.size) = a.0 ∙ ap (λ y. wrap (y + p.size)) eip in
        let there : InPlace plan e.to s1 (run z.steps t cs) = subst (λ at. InPlace plan at s1 (run z.steps t cs)) a.1 z.next in
        ⊎_elim
        (λ (o : (suc k < plan.copied x) × (e.to ≡ copies.place x (suc k)) × (plan.original x (suc k) ≡ wrap (p.at + p.size))). short z (in_place x (suc k) (record { cold = h.cold; within = o.0; eip = at ∙ sym o.2; goes = r; static = next; stands = subst (λ at. InPlace plan at s1 (run z.steps t cs)) (o.1 ∙ sym (all.copy x (suc k))) there })))
        (λ (o : Leads_on plan copies exe p e.to). long z (o.goes s1 (run z.steps t cs) (after z.steps cs) next r at there) (λ u l. lands r (closed s1 u next r (λ f. o.closed s1.eip at (runs_in_code exe s1 next r f) (λ n. no_step exe s1 next r n f)) l)))
        e.on)
        z.stays)
        (λ (o : IsOver s1.stop). short z (stops o (ap observed z.next.wider.same) (low e z)))
        (over_or s1)
      where
        low : (e : Stood plan copies exe x k p) → (z : TurnInPlace plan p (copies.place x k) e.to s t cs) → (run z.steps t cs).eip < 0x07000000
        low e z =
            let q : (run z.steps t cs).eip ≡ z.place = ap (λ (u : State). u.eip) z.next.wider.same in
            let a = all.low x k h.cold h.within in
            let b = e.low in
            ⊎_elim
            (λ (v : (s1.eip ≡ s.eip) × (z.place ≡ copies.place x k)). let w = v.1 in omega (arith, q, a, w))
            (λ (v : (s1.eip ≡ wrap (s.eip + p.size)) × (z.place ≡ e.to)). let w = v.1 in omega (arith, q, b, w))
            z.stays

        shown : {to : ℕ} (z : TurnInPlace plan p (copies.place x k) to s t cs) (i : ℕ) → i ≤ z.steps → (j : ℕ) × (j ≤ 1) × (observed (run i t cs) ≡ observed (run j s []))
        shown z zero n = (0, omega arith, seen)
        shown z (suc i) n = (1, omega arith, z.shows (suc i) (omega arith) n)

        short : {to : ℕ} (z : TurnInPlace plan p (copies.place x k) to s t cs) → After plan (IsOf exe) s s1 (run z.steps t cs) → Turned plan (IsOf exe) 130 s t cs
        short z a = record { steps = z.steps; going = z.some; bound = let q = z.few in omega (arith, q); shows = shown z; inside = z.inside; next = a }

        long : {to : ℕ} (z : TurnInPlace plan p (copies.place x k) to s t cs) (l : Leads (Landed plan copies exe s1.eip s1) 128 (run z.steps t cs) (after z.steps cs)) → ((u : State) → Landed plan copies exe s1.eip s1 u → After plan (IsOf exe) s s1 u) → Turned plan (IsOf exe) 130 s t cs
        long z l a = record {
          steps = z.steps + l.steps;
          going = let q = z.some in omega (arith, q);
          bound = let q = z.few in let r = l.bound in omega (arith, q, r);
          shows = λ i n. ⊎_elim
              (λ (c : i < z.steps). shown z i (omega arith))
              (λ (c : z.steps ≤ i). (1, omega arith, ap observed (later i c) ∙ l.shows (i - z.steps) (omega arith) ∙ z.shows z.steps z.some (omega arith)))
              (cases_lt i z.steps);
          inside = λ i n. ⊎_elim
              (λ (c : i < z.steps). z.inside i c)
              (λ (c : z.steps ≤ i). let q = l.inside (i - z.steps) (omega arith) in let e : (run i t cs).eip ≡ (run (i - z.steps) (run z.steps t cs) (after z.steps cs)).eip = ap (λ (u : State). u.eip) (later i c) in omega (arith, q, e))
              (cases_lt i z.steps);
          next = subst (λ u. After plan (IsOf exe) s s1 u) (sym (run_on z.steps l.steps t cs)) (a (run l.steps (run z.steps t cs) (after z.steps cs)) l.there);
        }
          where
            later : (i : ℕ) → z.steps ≤ i → run i t cs ≡ run (i - z.steps) (run z.steps t cs) (after z.steps cs)
            later i b = let e : i ≡ z.steps + (i - z.steps) = omega arith in ap (λ i. run i t cs) e ∙ run_on z.steps (i - z.steps) t cs

    turned : Turned plan (IsOf exe) 130 s t cs
    turned = ⊎_elim (λ (e : Stood plan copies exe x k p). stood e) (λ (e : Ended plan copies exe x k p). ended e) (all.stood x k h.cold h.within)

pub copies_turn : EachGoesByKind → CopiesTurn
copies_turn by_kind exe plan copies steps ends all x k s t cs h f next = turned by_kind exe plan copies steps ends all x k s t cs h f next

-- a side exit lands
pub beyond_lands : EntersJoined → BeyondLands
beyond_lands enters exe plan homes x s t cs ways far h r p = ⊎_elim
    (λ (c : (plan.cold s.eip ≡ true) × (plan.beyond x s.eip ≡ plan.copy s.eip 0)). record {
      steps = 0;
      enough = omega arith;
      bound = omega arith;
      shows = λ i l. let z : i ≡ 0 = omega (arith, l) in ap (λ i. observed (run i t cs)) z;
      inside = λ i l. absurd (omega (arith, l));
      there = to_copy c.0 (subst (λ at. InPlace plan at s t) c.1 p);
    })
    (λ (e : Reentry plan s.eip (plan.beyond x s.eip)).
    let same = p.wider.same in
    let eip : t.eip ≡ plan.beyond x s.eip = ap (λ (u : State). u.eip) same in
    let df : s.cpu.df ≡ t.cpu.df = sym (ap (λ (u : State). u.cpu.df) same) in
    let regs : t.cpu.regs ≡ s.cpu.regs = ap (λ (u : State). u.cpu.regs) same in
    let able : Capturable plan s.regions t = record {
      own = p.own;
      mem = ap (λ (u : State). u.regions) same;
      ready = subst (Ready p.own) df p.ready;
      count = ap length regs ∙ h.state.sound.regs.count;
      small = λ r l. rw regs (h.state.sound.regs.small r);
      goes = ap (λ (u : State). u.stop) same ∙ r;
    } in
    let l = enters register_homes plan e.dest homes e.to s.eip (dests.Block s.eip) t s.regions cs (subst (λ at. Stands e.dest plan.code at (closing_items register_homes (dests.Block s.eip)) e.to) (sym eip) e.stands) e.there e.small able in
    record {
      steps = l.steps;
      enough = omega arith;
      bound = let q = l.bound in omega (arith, q);
      shows = l.shows;
      inside = l.inside;
      there = to_block s.eip (captured_block plan (IsOf exe) s.eip s t (run l.steps t cs) p.own p.wider.flags p.wider.marks (plan.beyond x s.eip) e.start h r refl same p.wider.agree l.there);
    })
    (⊎_elim (λ (n : plan.beyond x s.eip ≡ s.eip). absurd (far n)) (λ w. w) ways)
