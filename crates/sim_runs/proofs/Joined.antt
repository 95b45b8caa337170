-- From the promises of the parts to behaviour preservation and coverage.
use Rattle.std.proofs.Common.{◌≡◌, ◌≢◌, ℕ, zero, suc, ◌+◌, ◌*◌, ◌^◌, ◌<◌, ◌≤◌, true, false, ◌&&◌, List, [], ◌∷◌, ◌++◌, length, Contains, refl, sym, ap, ◌∙◌, subst, arith, mul-le-mul_right, ⊎_elim, ◌⊎◌, inl, inr, Some}
use Rattle.std.specs.Prelude.{Ok, nat_le, nat_lt}
use Rattle.std.proofs.lemmas.Bool.{cases_lt, leb-true, true≢false}
use Rattle.br_word.specs.State.{State, Running, CF, PF, ZF, SF, OF}
use Rattle.elf_read.specs.declared.exe.Segment.{Segment}
use Rattle.elf_read.specs.declared.exe.Exe.{Exe}
use Rattle.elf_read.specs.declared.exe.Reach.TheVariants.{Original}
use Rattle.elf_read.specs.Elf.{IsOriginal, IsGuest, AreSegments, elf}
use Rattle.elf_read.proofs.Accepted.{accepted, original_is_guest}
use Rattle.ia_inst.specs.declared.inst.Inst.{Inst}
use Rattle.ia_inst.specs.Instructions.{decode_of}
use Rattle.ia_inst.specs.Meaning.{wrap}
use Rattle.ia_inst.specs.Step.{step, IsWellDefined}
use Rattle.run_model.specs.Opening.{arguments, opening, opening_of, exe_or_none, guest_of}
use Rattle.run_model.specs.Run.{AreOfBytes, observed, observed_of, run, run_of, WellDefined, IsWellDefinedRun}
use Rattle.run_model.specs.Edges.{Edge, edges_from}
use Rattle.block_cut.specs.declared.ends.End.TheVariants.{Transfer, Island}
use Rattle.block_cut.specs.Places.{found_at}
use Rattle.block_cut.specs.Blocks.{last_of, block_of, EachHasOneBlock}
use Rattle.flow_graph.specs.GraphOf.{OneGraph}
use Rattle.lift_laws.specs.BlockMeans.{Gives, BlockMeans, BlocksAreQuiet}
use Rattle.lift_flow.specs.LiftedBlock.{lift_of}
use Rattle.ssa_form.specs.Agree.{AgreesOn, AreBits, every}
use Rattle.ssa_form.specs.Same.{AreSmall, end_env}
use Rattle.ssa_form.specs.Value.{outs_of}
use Rattle.sim_laws.specs.ByKind.{IsQuiet, EachGoesByKind}
use Rattle.sim_laws.specs.InCode.{IsStateOf, StaysInCode, StepsInCode}
use Rattle.sim_laws.specs.KnownExits.{LeavesByKnown, LeavesNative}
use Rattle.sim_laws.specs.Through.{Comes}
use Rattle.sim_laws.specs.Wider.{RunsWider}
use Rattle.sim_laws.specs.Preserves.{ReachesAt, Preserves}
use Rattle.sim_laws.specs.Covers.{AllIn, IsOutside, Covers}
use Rattle.sim_runs.specs.Forward.{AllGood, Moves}
use Rattle.sim_runs.specs.Whole.{IsKept, Begun}
use Rattle.sim_runs.specs.Relation.{Plan, Related}
use Rattle.sim_runs.specs.Laws.{Original as Static_laws, Laid, Starts, PlainLaws, IslandLaws, IsIndirect}
use Rattle.sim_runs.specs.Leaving.{Anything, IsBelow}
use Rattle.sim_runs.specs.Image.{Opening}
use Rattle.sim_runs.specs.Recovered.{Coded, is_island_end, is_start_of, knows_of, plan_of}
use Rattle.sim_runs.specs.Promised.{IsOf, laid_exe, Laws}
use Rattle.sim_runs.proofs.High.{high_on}
use Rattle.sim_runs.proofs.Known.{and_inv, in_either, entry_starts, known_starts}
use Rattle.sim_runs.proofs.Blocks.{to_defined, not_native, few, one_native, empty_runs, left_never, native_follows}
use Rattle.sim_runs.proofs.Natives.{native_placeless, native_near, native_df, run_start}
use Rattle.sim_runs.proofs.Openings.{opening_high, opens}
use Rattle.sim_runs.proofs.Whole.{all_fine, all_keep, begun}
use Rattle.sim_runs.proofs.Image.{moves, simulated, fine_claim, kept_claim}
use Rattle.sim_runs.proofs.Indirect.{indirect_met}

-- the laws below that the simulation stands on
pub record Below : Type 0 where
  pub stays : StaysInCode
  pub steps : StepsInCode
  pub wider : RunsWider
  pub by_kind : EachGoesByKind
  pub leaves : LeavesByKnown
  pub native : LeavesNative
  pub one : EachHasOneBlock
  pub graph : OneGraph
  pub bytes : (bs : List ℕ) (i : Inst) (n : ℕ) → decode_of bs ≡ Some (i, n) → (1 ≤ n) × (n ≤ 15) × (n ≤ length bs)
  pub means : BlockMeans
  pub quiet : BlocksAreQuiet

-- the numbers of registers and flags are below 2 ^ 32
small_by : (exe : Exe) (s : State) (p : ℕ → ℕ) → IsOf exe s → AgreesOn every s.cpu p → AreBits p → AreSmall p
small_by exe s p h a b v l = ⊎_elim
    (λ (r : v < 8). let e = a.regs v r refl in let q = h.state.sound.regs.small v in omega (arith, e, q))
    (λ (r : 8 ≤ v). bits (cases_lt v 9) (cases_lt v 10) (cases_lt v 11) (cases_lt v 12) (cases_lt v 13) r)
    (cases_lt v 8)
  where
    at : (k : ℕ) → v ≡ k → p k < 2 → p v < 2 ^ 32
    at k e q = let f = ap p e in omega (arith, f, q)

    bits : (v < 9) ⊎ (9 ≤ v) → (v < 10) ⊎ (10 ≤ v) → (v < 11) ⊎ (11 ≤ v) → (v < 12) ⊎ (12 ≤ v) → (v < 13) ⊎ (13 ≤ v) → 8 ≤ v → p v < 2 ^ 32
    bits (inl c) d e f g r = at 8 (omega (arith, c, r)) (b.flags CF)
    bits (inr c) (inl d) e f g r = at 9 (omega (arith, c, d)) (b.flags PF)
    bits (inr c) (inr d) (inl e) f g r = at 10 (omega (arith, d, e)) (b.flags ZF)
    bits (inr c) (inr d) (inr e) (inl f) g r = at 11 (omega (arith, e, f)) (b.flags SF)
    bits (inr c) (inr d) (inr e) (inr f) (inl g) r = at 12 (omega (arith, f, g)) (b.flags OF)
    bits (inr c) (inr d) (inr e) (inr f) (inr g) r = at 13 (omega (arith, g, l)) b.df

-- below all segments is outside of them
outside_low : (a : ℕ) (ss : List Segment) → AreSegments 0x08000000 ss → (0x08000000 ≤ a → ⊥) → IsOutside a ss
outside_low a [] h n = tt
outside_low a (s ∷ ss) h n =
    ((λ e. n (let q = leb-true s.start a (and_inv (nat_le s.start a) (nat_lt a (s.start + s.size)) e).0 in let l = h.0.low in omega (arith, q, l))), outside_low a ss h.1 n)

module _ (below : Below) (e : List ℕ) (exe : Exe) (ok : elf Original e ≡ Ok exe) (edges further : List Edge) (file : List ℕ) (c : Coded) (laws : Laws exe edges further file c) where
  abbrev plan : Plan
  plan = plan_of exe edges c

  original : IsOriginal exe
  original = (accepted e exe ok).fields

  guest : IsGuest exe
  guest = original_is_guest exe original

  of_on : (s : State) → IsOf exe s → IsWellDefined s → IsOf exe (step s 0)
  of_on s h f = record { state = below.steps exe s 0 h.state; high = high_on below.wider s h.high f }

  of_run : (n : ℕ) (s : State) → IsOf exe s → AllGood IsWellDefined n s → IsOf exe (run n s [])
  of_run zero s h g = h
  of_run (suc n) s h g = of_run n (step s 0) (of_on s h g.0) g.1

  statics : Static_laws (IsOf exe)
  statics = record { on = of_on; high = λ s h. h.high; eight = λ s h. h.state.sound.regs.count; small = λ s h r l. h.state.sound.regs.small r }

  laid : Laid plan
  laid = record { low = laws.laid.low; known_start = known_starts below.graph exe guest edges; island_live = laws.laid.live }

  -- ---- blocks that are not native

  not_island : (x : ℕ) → is_start_of exe edges x ≡ true → (is_start_of exe edges x && is_island_end (block_of exe x).end) ≡ false → is_island_end (block_of exe x).end ≡ false
  not_island x s i = ap (λ b. b && is_island_end (block_of exe x).end) (sym s) ∙ i

  plain_here : (x : ℕ) (s : State) → Starts plan (IsOf exe) x s → is_island_end (block_of exe s.eip).end ≡ false
  plain_here x s h = ap (λ y. is_island_end (block_of exe y).end) h.eip ∙ not_island x h.start h.plain

  other_end : (x : ℕ) (s : State) → Starts plan (IsOf exe) x s → (block_of exe s.eip).end ≢ Island
  other_end x s h = not_native (block_of exe s.eip).end (plain_here x s h)

  quiet_at : (x j : ℕ) (s : State) → Starts plan (IsOf exe) x s → j ≤ length (block_of exe x).insts → AllGood IsWellDefined j s → IsQuiet s (run j s [])
  quiet_at x j s h l g =
      let b : j ≤ length (block_of exe s.eip).insts = subst (λ y. j ≤ length (block_of exe y).insts) (sym h.eip) l in
      below.quiet exe s j guest h.static.state h.goes (other_end x s h) b (to_defined j s g)

  gives_at : (x : ℕ) (p : ℕ → ℕ) (s : State) → Starts plan (IsOf exe) x s → AgreesOn every s.cpu p → AreBits p → AllGood IsWellDefined (length (block_of exe x).insts) s → Gives (lift_of exe x) p s.regions (run (length (block_of exe x).insts) s [])
  gives_at x p s h a b g =
      let w = to_defined (length (block_of exe s.eip).insts) s (subst (λ y. AllGood IsWellDefined (length (block_of exe y).insts) s) (sym h.eip) g) in
      subst (λ y. Gives (lift_of exe y) p s.regions (run (length (block_of exe y).insts) s [])) h.eip (below.means exe s p guest h.static.state h.goes (other_end x s h) a b w)

  blocks : PlainLaws plan (IsOf exe) laws.plain
  blocks = record {
    few = few below.one exe;
    empty = λ x s h z f. empty_runs below.one exe below.leaves guest s h.static h.goes (plain_here x s h) (ap (λ y. length (block_of exe y).insts) h.eip ∙ z) f;
    steady = λ x j s h l g. (quiet_at x j s h l g).seen;
    lift = λ x p s h a b g.
        let m = gives_at x p s h a b g in
        let q = quiet_at x (length (block_of exe x).insts) s h (omega arith) g in
        record { agrees = m.agrees; memory = sym m.memory; eip = sym m.exit; brk_start = run_start (length (block_of exe x).insts) s; brk = q.brk };
    fragment = λ x p s t a cs h agrees g outer sees there homes bits given.
        let pl = not_island x h.start h.plain in
        let m = gives_at x p s h agrees given g in
        let after = small_by exe (run (length (block_of exe x).insts) s []) (outs_of (lift_of exe x).outs (end_env (lift_of exe x) p s.regions)) (of_run (length (block_of exe x).insts) s h.static g) m.agrees m.bits in
        laws.fragment x p t a cs h.start pl (laws.serves x h.start pl) (record {
          sees = sees;
          eip = there;
          bytes = rw outer h.static.state.sound.bytes;
          high = rw outer h.static.high.regions;
          homes = homes;
          home_bits = bits;
          bits = given;
          small = small_by exe s p h.static agrees given;
          allowed = rw outer m.allowed;
          out_bits = rw outer m.bits;
          out_small = rw outer after;
        });
  }

  -- ---- native instructions

  island_end : (x : ℕ) → (is_start_of exe edges x && is_island_end (block_of exe x).end) ≡ true → is_island_end (block_of exe x).end ≡ true
  island_end x i = (and_inv (is_start_of exe edges x) (is_island_end (block_of exe x).end) i).1

  islands : IslandLaws plan (IsOf exe) laws.opening laws.closing
  islands = record {
    here = λ x s i h e. h.state.code s.eip ∙ ap (found_at exe) e ∙ (one_native below.one exe x (island_end x i)).there;
    copied = laws.laid.copied;
    inside = laws.laid.inside;
    placeless = λ x regs at to df i. native_placeless (plan.inst x) (plan.len x) regs at to df (one_native below.one exe x (island_end x i)).kind;
    ends = λ x regs at df i. native_near (plan.inst x) (plan.len x) regs at df (one_native below.one exe x (island_end x i)).kind;
    keeps_df = λ x s i h e f. let o = one_native below.one exe x (island_end x i) in native_df below.by_kind s (plan.inst x) (plan.len x) (h.state.code s.eip ∙ ap (found_at exe) e ∙ o.there) o.kind f;
    no_code = λ x s i u h r e w goes at f. followed x s i u h r e w goes at f;
    opens = laws.exchange.opens;
    closes = λ x t own outer cs i k mem ready count small goes eip. laws.exchange.closes x t outer cs i k (record { own = own; mem = mem; ready = ready; count = count; small = small; goes = goes }) eip;
  }
    where
      followed : (x : ℕ) (s : State) → plan.is_island x ≡ true → plan.knows x (wrap (x + plan.len x)) ≡ false → IsOf exe s → s.stop ≡ Running → s.eip ≡ x → IsWellDefined s → (step s 0).stop ≡ Running → (step s 0).eip ≡ wrap (x + plan.len x) → IsWellDefined (step s 0) → ⊥
      followed x s i u h r e w goes at f =
          let o = one_native below.one exe x (island_end x i) in
          native_follows below.native below.bytes exe guest edges s (plan.inst x) (plan.len x) h r (ap (λ y. is_island_end (block_of exe y).end) e ∙ island_end x i) (ap (found_at exe) e ∙ o.there) (subst (λ y. knows_of exe edges y (wrap (y + plan.len x)) ≡ false) (sym e) u) w goes (at ∙ ap (λ y. wrap (y + plan.len x)) (sym e)) f

  -- ---- from block to block

  abbrev set : List Edge
  set = edges ++ further

  never : (x : ℕ) (s : State) → Starts plan (IsOf exe) x s → AllGood (IsKept set) (plan.count x) s → plan.knows x (run (plan.count x) s []).eip ≡ false → plan.beyond x (run (plan.count x) s []).eip ≡ (run (plan.count x) s []).eip → IsWellDefined (run (plan.count x) s []) → ⊥
  never x s h g u near f =
      let P : ℕ → Type 0 = λ y. AllGood (IsKept set) (length (block_of exe y).insts) s in
      let U : ℕ → Type 0 = λ y. knows_of exe edges y (run (length (block_of exe y).insts) s []).eip ≡ false in
      let F : ℕ → Type 0 = λ y. IsWellDefined (run (length (block_of exe y).insts) s []) in
      let Q : ℕ → Type 0 = λ y. Comes exe s (run (length (block_of exe y).insts) s []) × ((block_of exe y).end ≡ Transfer) × Contains further (last_of y (block_of exe y).insts, (run (length (block_of exe y).insts) s []).eip) in
      let l = subst Q h.eip (left_never below.leaves exe guest edges further s h.static h.goes (plain_here x s h) (subst P (sym h.eip) g) (subst U (sym h.eip) u) (subst F (sym h.eip) f)) in
      let t = run (plan.count x) s [] in
      let fine = kept_fine (plan.count x) s g in
      laws.met.apart x t.eip h.start l.1 u near l.2 t (of_run (plan.count x) s h.static fine) l.0.running refl f
    where
      kept_fine : (n : ℕ) (s : State) → AllGood (IsKept set) n s → AllGood IsWellDefined n s
      kept_fine zero s g = tt
      kept_fine (suc n) s g = (g.0.fine, kept_fine n (step s 0) g.1)

  -- from a copy an indirect transfer leads to a block or a copy, or nowhere
  nowhere : (s : State) → IsOf exe s → s.stop ≡ Running → IsKept set s → IsIndirect s → (step s 0).stop ≡ Running → plan.is_start (step s 0).eip ≡ false → plan.cold (step s 0).eip ≡ false → IsWellDefined (step s 0) → ⊥
  nowhere s h r g i goes start cold f = ⊎_elim
      (λ (q : is_start_of exe edges (step s 0).eip ≡ true). true≢false (sym q ∙ start))
      (λ (q : Contains further (s.eip, (step s 0).eip)). ⊎_elim
      (λ (m : plan.is_start (step s 0).eip ≡ true). true≢false (sym m ∙ start))
      (λ (m : plan.cold (step s 0).eip ≡ true). true≢false (sym m ∙ cold))
      (laws.met.met (s.eip, (step s 0).eip) q))
      (indirect_met below.graph exe guest edges further s h r g.fine g.keeps i (of_on s h g.fine) goes f)

  -- what is related stays so, with some steps of both
  pub moves_on : Moves IsWellDefined (Related plan (IsOf exe) Anything (Unit {0})) Anything laws.high
  moves_on = moves plan (IsOf exe) laws.plain laws.turn laws.opening laws.closing laws.top laws.high statics laid blocks laws.copies islands laws.plain_bound laws.island_bound IsWellDefined Anything (Unit {0}) (fine_claim plan (IsOf exe) laws.plain laws.turn laws.opening laws.closing laws.top laws.high statics laid blocks laws.copies islands laws.plain_bound laws.island_bound)

  -- so does one that keeps to the edges, and never leaves the recovered code
  pub keeps_on : Moves (IsKept set) (Related plan (IsOf exe) IsBelow ⊥) IsBelow laws.high
  keeps_on = moves plan (IsOf exe) laws.plain laws.turn laws.opening laws.closing laws.top laws.high statics laid blocks laws.copies islands laws.plain_bound laws.island_bound (IsKept set) IsBelow ⊥ (kept_claim plan (IsOf exe) laws.plain laws.turn laws.opening laws.closing laws.top laws.high statics laid blocks laws.copies islands laws.plain_bound laws.island_bound set never nowhere)

  -- ---- both guests from their openings
  module _ (words : List (List ℕ)) (input : List ℕ) (given : AreOfBytes e words input) where
    abbrev s0 : State
    s0 = opening exe (arguments words) input

    abbrev t0 : State
    t0 = opening (laid_exe exe laws.laid.segment) (arguments words) input

    begins : Opening plan (IsOf exe) laws.top s0 t0
    begins = opens exe plan laws.laid.segment laws.laid.code laws.laid.low laws.opening laws.closing laws.top laws.exchange (arguments words) input (record {
      state = subst (λ r. IsStateOf exe (opening (exe_or_none r) (arguments words) input)) (accepted e exe ok).as_guest (below.stays e exe words input [] 0 (accepted e exe ok).as_guest given);
      high = opening_high exe (arguments words) input original;
    })

    -- where the recovered code may be left
    pub begun_any : (n : ℕ) (cs : List ℕ) → WellDefined n s0 → Begun Anything laws.top laws.high n s0 t0 cs
    begun_any n cs h =
        let z = simulated plan (IsOf exe) laws.plain laws.turn laws.opening laws.closing laws.top laws.high statics laid blocks laws.copies islands laws.plain_bound laws.island_bound IsWellDefined Anything (Unit {0}) (fine_claim plan (IsOf exe) laws.plain laws.turn laws.opening laws.closing laws.top laws.high statics laid blocks laws.copies islands laws.plain_bound laws.island_bound) s0 t0 begins (λ b d. tt) in
        begun IsWellDefined (Related plan (IsOf exe) Anything (Unit {0})) Anything laws.top laws.high z.alike z.moves n s0 t0 cs (z.enters cs) (all_fine n s0 h)

    -- and where it may not
    pub begun_low : (n : ℕ) (cs : List ℕ) → Contains set (0, exe.entry) → WellDefined n s0 → AllIn set (edges_from n s0) → Begun IsBelow laws.top laws.high n s0 t0 cs
    begun_low n cs k h e =
        let z = simulated plan (IsOf exe) laws.plain laws.turn laws.opening laws.closing laws.top laws.high statics laid blocks laws.copies islands laws.plain_bound laws.island_bound (IsKept set) IsBelow ⊥ (kept_claim plan (IsOf exe) laws.plain laws.turn laws.opening laws.closing laws.top laws.high statics laid blocks laws.copies islands laws.plain_bound laws.island_bound set never nowhere) s0 t0 begins entry_met in
        begun (IsKept set) (Related plan (IsOf exe) IsBelow ⊥) IsBelow laws.top laws.high z.alike z.moves n s0 t0 cs (z.enters cs) (all_keep set n s0 h e)
      where
        entry_met : plan.is_start exe.entry ≡ false → plan.cold exe.entry ≡ false → ⊥
        entry_met b d = ⊎_elim
            (λ (q : Contains edges (0, exe.entry)). true≢false (sym (entry_starts below.graph exe guest edges q original.entry) ∙ b))
            (λ (q : Contains further (0, exe.entry)). ⊎_elim
            (λ (m : plan.is_start exe.entry ≡ true). true≢false (sym m ∙ b))
            (λ (m : plan.cold exe.entry ≡ true). true≢false (sym m ∙ d))
            (laws.met.met (0, exe.entry) q))
            (in_either edges further (0, exe.entry) k)

  module _ (words : List (List ℕ)) (input : List ℕ) where
    first : opening_of e words input ≡ opening exe (arguments words) input
    first = ap (λ r. opening (exe_or_none r) (arguments words) input) (accepted e exe ok).as_guest

    second : opening_of file words input ≡ opening (laid_exe exe laws.laid.segment) (arguments words) input
    second = ap (λ r. opening (exe_or_none r) (arguments words) input) laws.laid.accepted

    abbrev shown : List ℕ → ℕ → ℕ → Type 0
    shown cs m n = observed_of file words input cs m ≡ observed_of e words input [] n

    show : (cs : List ℕ) (m n : ℕ) → observed (run m (opening (laid_exe exe laws.laid.segment) (arguments words) input) cs) ≡ observed (run n (opening exe (arguments words) input) []) → shown cs m n
    show cs m n h = ap (λ s. observed (run m s cs)) second ∙ h ∙ sym (ap (λ s. observed (run n s [])) first)

  reached : (words : List (List ℕ)) (input cs : List ℕ) (k : ℕ) → Begun Anything laws.top laws.high k (opening exe (arguments words) input) (opening (laid_exe exe laws.laid.segment) (arguments words) input) cs → (r : ReachesAt e file words input cs k) × (r.steps ≤ laws.top + laws.high * k)
  reached words input cs k b = (
    record {
      steps = b.covers.steps;
      bound = within laws.top laws.high (length file) k b.covers.steps laws.top_bound laws.high_bound b.bound;
      same = show words input cs b.covers.steps k b.covers.arrives;
      before = λ m l. let q = b.covers.shows m l in (q.0, q.1, show words input cs m q.0 q.2);
    },
    b.bound,
  )
    where
      within : (top high len k steps : ℕ) → top ≤ len → high ≤ len → steps ≤ top + high * k → steps ≤ len * (k + 1)
      within top high len k steps lt lh l = let p = mul-le-mul_right {m = high} {n = len} k lh in grind arith

  -- the forward simulation, with the bounds of the parts
  pub reaches_within : (words : List (List ℕ)) (input cs : List ℕ) → AreOfBytes e words input → (k : ℕ) → IsWellDefinedRun e words input k → (r : ReachesAt e file words input cs k) × (r.steps ≤ laws.top + laws.high * k)
  reaches_within words input cs given k d = reached words input cs k (begun_any words input given k cs (subst (WellDefined k) (first words input) d))

  pub preserves : Preserves e file
  preserves = record {
    accepted = (laid_exe exe laws.laid.segment, laws.laid.accepted);
    forward = λ words input cs fit given _ k d. (reaches_within words input cs given k d).0;
    backward = λ words input cs fit given _ m d.
        let b = begun_any words input given (64 * (m + 1)) cs (subst (WellDefined (64 * (m + 1))) (first words input) d) in
        let q = b.covers.shows m (omega (arith, b.reach)) in
        (q.0, q.1, show words input cs m q.0 q.2);
  }

  pub covers : Covers e file set
  covers = record {
    outside = λ words input cs fit given _ m d keeps k l.
        let s = first words input in
        let g : guest_of e ≡ exe = ap exe_or_none (accepted e exe ok).as_guest in
        let has : Contains set (0, exe.entry) = subst (λ (x : Exe). Contains set (0, x.entry)) g keeps.0 in
        let b = begun_low words input given (64 * (m + 1)) cs has (subst (WellDefined (64 * (m + 1))) s d) (subst (λ s. AllIn set (edges_from (64 * (m + 1)) s)) s keeps.1) in
        let low = b.covers.quiet k (omega (arith, b.reach, l)) in
        let there : (run_of file words input cs k).eip ≡ (run k (opening (laid_exe exe laws.laid.segment) (arguments words) input) cs).eip = ap (λ s. (run k s cs).eip) (second words input) in
        subst (λ (x : Exe). IsOutside (run_of file words input cs k).eip x.segments) (sym g) (subst (λ a. IsOutside a exe.segments) (sym there) (outside_low _ exe.segments original.segments low));
  }
