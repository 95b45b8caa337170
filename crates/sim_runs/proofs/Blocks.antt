-- The blocks of the graph: how many steps they have, how they end, and where a run that keeps to recorded edges leaves them.
use Rattle.std.proofs.Common.{◌≡◌, ◌≢◌, ℕ, zero, suc, ◌+◌, ◌<◌, ◌≤◌, true, false, Bool, List, [], ◌∷◌, ◌++◌, length, Option, Some, None, Contains, refl, sym, ap, ◌∙◌, subst, arith, ⊎_elim}
use Rattle.std.specs.Prelude.{if◌then◌else◌, option_to_list, ◌&&◌}
use Rattle.std.specs.Bool.{then_some}
use Rattle.std.proofs.lemmas.Bool.{true≢false}
use Rattle.br_word.specs.State.{State, Running}
use Rattle.elf_read.specs.declared.exe.Exe.{Exe}
use Rattle.elf_read.specs.Elf.{IsGuest, is_exec}
use Rattle.elf_read.specs.Code.{code_at}
use Rattle.ia_inst.specs.declared.inst.Inst.{Inst}
use Rattle.ia_inst.specs.declared.inst.Kind.TheVariants as kinds
use Rattle.ia_inst.specs.Kinds.{kind_of}
use Rattle.ia_inst.specs.Instructions.{decode_of}
use Rattle.ia_inst.specs.Meaning.{wrap}
use Rattle.ia_inst.specs.Step.{Found, NoCode, NoInst, There, found_from, step, IsWellDefined}
use Rattle.run_model.specs.Run.{run, WellDefined}
use Rattle.run_model.specs.Edges.{Edge, edge_of, edges_from}
use Rattle.block_cut.specs.declared.ends.End.{End}
use Rattle.block_cut.specs.declared.ends.End.TheVariants.{Transfer, Island, BeforeIsland, Unreadable, Full}
use Rattle.block_cut.specs.Places.{Placed, found_at}
use Rattle.block_cut.specs.Blocks.{last_of, size_of, StandFrom, EndsSo, IsBlock, block_of, is_followed, next_of, follow_of, EachHasOneBlock}
use Rattle.block_cut.specs.CountedEdges.{counting}
use Rattle.flow_graph.specs.Graph.{known_of}
use Rattle.sim_laws.specs.Covers.{AllIn}
use Rattle.sim_laws.specs.KnownExits.{LeavesByKnown, LeavesNative}
use Rattle.sim_laws.specs.Through.{Comes}
use Rattle.sim_runs.specs.Forward.{AllGood}
use Rattle.sim_runs.specs.Whole.{IsKept}
use Rattle.sim_runs.specs.Promised.{IsOf}
use Rattle.sim_runs.specs.Recovered.{is_island_end, first_inst, knows_of}
use Rattle.sim_runs.proofs.Known.{to_among, none, is_transfer_end, known_other, known_or}

no_truth : {X : Type 0} → false ≡ true → X
no_truth e = cc

few_by : (exe : Exe) (next : ℕ) (is : List Placed) (e : End) → EndsSo exe next is e → length is ≤ 64
few_by exe next is Transfer h = h.1
few_by exe next is Island h = omega (arith, h.1)
few_by exe next is BeforeIsland h = omega (arith, h.2)
few_by exe next is Unreadable h = omega (arith, h.1)
few_by exe next is Full h = omega (arith, h.1)

-- the one instruction of a block that is native
pub record IsOne (exe : Exe) (x : ℕ) (i : Inst) (n : ℕ) : Type 0 where
  pub there : found_at exe x ≡ There i n
  pub kind : kind_of i ≡ kinds.Island

one_by : (exe : Exe) (x next : ℕ) (is : List Placed) (e : End) → StandFrom exe x is → EndsSo exe next is e → is_island_end e ≡ true → IsOne exe x (first_inst is) (size_of is)
one_by exe x next is Transfer st h i = no_truth i
one_by exe x next [] Island st h i = absurd h.0
one_by exe x next (p ∷ []) Island st h i = let z : p.size ≡ size_of (p ∷ []) = omega arith in record { there = st.1 ∙ ap (λ n. There p.inst n) z; kind = h.0 }
one_by exe x next (p ∷ q ∷ qs) Island st h i = absurd (omega (arith, h.1))
one_by exe x next is BeforeIsland st h i = no_truth i
one_by exe x next is Unreadable st h i = no_truth i
one_by exe x next is Full st h i = no_truth i

-- an instruction has 1 to 15 bytes
abbrev HasBytes : Type 0
HasBytes = (bs : List ℕ) (i : Inst) (n : ℕ) → decode_of bs ≡ Some (i, n) → (1 ≤ n) × (n ≤ 15) × (n ≤ length bs)

len_found : HasBytes → (exe : Exe) (at : ℕ) (i : Inst) (n : ℕ) → found_at exe at ≡ There i n → (1 ≤ n) × (n ≤ 15)
unfolding found_at
len_found bytes exe at i n f = go (is_exec at exe.segments) f
  where
    len : Found → ℕ
    len NoCode = 0
    len NoInst = 0
    len (There i n) = n

    by : (o : Option (Inst × ℕ)) → decode_of (code_at at exe.segments) ≡ o → found_from o ≡ There i n → (1 ≤ n) × (n ≤ 15)
    by None e h = cc
    by (Some j) e h = let b = bytes (code_at at exe.segments) j.0 j.1 e in let m : j.1 ≡ n = ap len h in (omega (arith, b.0, m), omega (arith, b.1, m))

    go : (b : Bool) → (if b then found_from (decode_of (code_at at exe.segments)) else NoCode) ≡ There i n → (1 ≤ n) × (n ≤ 15)
    go true h = by (decode_of (code_at at exe.segments)) refl h
    go false h = cc

pub to_defined : (n : ℕ) (s : State) → AllGood IsWellDefined n s → WellDefined n s
to_defined zero s g = tt
to_defined (suc n) s g = (g.0, to_defined n (step s 0) g.1)

kept_defined : (set : List Edge) (n : ℕ) (s : State) → AllGood (IsKept set) n s → WellDefined n s
kept_defined set zero s g = tt
kept_defined set (suc n) s g = (g.0.fine, kept_defined set n (step s 0) g.1)

in_both : (set xs ys : List Edge) → AllIn set xs → AllIn set ys → AllIn set (xs ++ ys)
in_both set [] ys h k = k
in_both set (x ∷ xs) ys h k = (h.0, in_both set xs ys h.1 k)

kept_edges : (set : List Edge) (n : ℕ) (s : State) → AllGood (IsKept set) n s → AllIn set (edges_from n s)
kept_edges set zero s g = tt
kept_edges set (suc n) s g = in_both set (edge_of s.stop s 0) (edges_from n (step s 0)) g.0.keeps (kept_edges set n (step s 0) g.1)

pub not_native : (e : End) → is_island_end e ≡ false → e ≢ Island
not_native e h = λ i. true≢false (sym (ap is_island_end i) ∙ h)

pub is_native : (e : End) → is_island_end e ≡ true → e ≡ Island
is_native Transfer h = no_truth h
is_native Island h = refl
is_native BeforeIsland h = no_truth h
is_native Unreadable h = no_truth h
is_native Full h = no_truth h

-- a block without instructions ends where nothing is read
empty_by : (exe : Exe) (next : ℕ) (is : List Placed) (e : End) → EndsSo exe next is e → length is ≡ 0 → e ≡ Unreadable
empty_by exe next [] Transfer h z = absurd h.0
empty_by exe next (p ∷ ps) Transfer h z = absurd (omega (arith, z))
empty_by exe next is Island h z = absurd (omega (arith, h.1, z))
empty_by exe next is BeforeIsland h z = absurd (omega (arith, h.1, z))
empty_by exe next is Unreadable h z = refl
empty_by exe next is Full h z = absurd (omega (arith, h.1, z))

module _ (one : EachHasOneBlock) (exe : Exe) where
  block_is : (x : ℕ) → IsBlock exe x (block_of exe x)
  block_is x = (one exe x (block_of exe x)).1 refl

  pub one_native : (x : ℕ) → is_island_end (block_of exe x).end ≡ true → IsOne exe x (first_inst (block_of exe x).insts) (size_of (block_of exe x).insts)
  one_native x h = let b = block_is x in one_by exe x (x + size_of (block_of exe x).insts) (block_of exe x).insts (block_of exe x).end b.stand b.ends h

  pub few : (x : ℕ) → length (block_of exe x).insts ≤ 64
  few x = few_by exe (x + size_of (block_of exe x).insts) (block_of exe x).insts (block_of exe x).end (block_is x).ends

  no_follow : (x : ℕ) → (block_of exe x).end ≡ Unreadable → follow_of exe x ≡ None
  unfolding follow_of
  no_follow x e = ap (λ e. then_some (is_followed e && is_exec (next_of exe x) exe.segments) (next_of exe x)) e

  -- from an empty block no step is well defined
  pub empty_runs : LeavesByKnown → IsGuest exe → (s : State) → IsOf exe s → s.stop ≡ Running → is_island_end (block_of exe s.eip).end ≡ false → length (block_of exe s.eip).insts ≡ 0 → IsWellDefined s → ⊥
  empty_runs leaves guest s h r pl z f =
      let e = empty_by exe (s.eip + size_of (block_of exe s.eip).insts) (block_of exe s.eip).insts (block_of exe s.eip).end (block_is s.eip).ends z in
      let w : WellDefined (length (block_of exe s.eip).insts) s = subst (λ n. WellDefined n s) (sym z) tt in
      let u : IsWellDefined (run (length (block_of exe s.eip).insts) s []) = subst (λ n. IsWellDefined (run n s [])) (sym z) f in
      let a : AllIn [] (edges_from (length (block_of exe s.eip).insts) s) = subst (λ n. AllIn [] (edges_from n s)) (sym z) tt in
      let k = (leaves exe [] s guest h.state r (not_native (block_of exe s.eip).end pl) w u a).1 in
      let t : is_transfer_end (block_of exe s.eip).end ≡ false = ap is_transfer_end e in
      let y : ℕ = (run (length (block_of exe s.eip).insts) s []).eip in
      let P : List ℕ → Type 0 = λ ks. Contains ks y in
      none y (subst P (known_other exe [] s.eip t ∙ ap option_to_list (no_follow s.eip e)) k)

-- where its edges are of these, a run leaves a block by an exit that is not known only by one of the further ones
pub left_never : LeavesByKnown → (exe : Exe) → IsGuest exe → (edges further : List Edge) (s : State) → IsOf exe s → s.stop ≡ Running → is_island_end (block_of exe s.eip).end ≡ false → AllGood (IsKept (edges ++ further)) (length (block_of exe s.eip).insts) s → knows_of exe edges s.eip (run (length (block_of exe s.eip).insts) s []).eip ≡ false → IsWellDefined (run (length (block_of exe s.eip).insts) s [])
    → Comes exe s (run (length (block_of exe s.eip).insts) s []) × ((block_of exe s.eip).end ≡ Transfer) × Contains further (last_of s.eip (block_of exe s.eip).insts, (run (length (block_of exe s.eip).insts) s []).eip)
left_never leaves exe guest edges further s h r pl g u f =
    let n = length (block_of exe s.eip).insts in
    let es = edges ++ further in
    let l = leaves exe es s guest h.state r (not_native (block_of exe s.eip).end pl) (kept_defined es n s g) f (kept_edges es n s g) in
    ⊎_elim
    (λ (k : Contains (known_of exe (counting exe edges) s.eip) (run n s []).eip). absurd (true≢false (sym (to_among (known_of exe (counting exe edges) s.eip) (run n s []).eip k) ∙ u)))
    (λ (k : ((block_of exe s.eip).end ≡ Transfer) × Contains further (last_of s.eip (block_of exe s.eip).insts, (run n s []).eip)). (l.0, k.0, k.1))
    (known_or exe edges further s.eip (run n s []).eip l.1)

-- behind a native instruction stands a known exit, or nothing runs there
pub native_follows : LeavesNative → HasBytes → (exe : Exe) → IsGuest exe → (edges : List Edge) (s : State) (i : Inst) (n : ℕ) → IsOf exe s → s.stop ≡ Running → is_island_end (block_of exe s.eip).end ≡ true → found_at exe s.eip ≡ There i n → knows_of exe edges s.eip (wrap (s.eip + n)) ≡ false → IsWellDefined s → (step s 0).stop ≡ Running → (step s 0).eip ≡ wrap (s.eip + n) → IsWellDefined (step s 0) → ⊥
native_follows native bytes exe guest edges s i n h r isl there u w goes at f = ⊎_elim
    (λ (e : (step s 0).eip ≡ s.eip). let b = len_found bytes exe s.eip i n there in let l = h.state.sound.eip in let q : wrap (s.eip + n) ≡ s.eip = sym at ∙ e in absurd (apart s.eip n l b.0 b.1 q))
    (λ (k : Contains (known_of exe (counting exe edges) s.eip) (step s 0).eip). absurd (true≢false (sym (to_among (known_of exe (counting exe edges) s.eip) (step s 0).eip k) ∙ ap (knows_of exe edges s.eip) at ∙ u)))
    (native exe (counting exe edges) s guest h.state r (is_native (block_of exe s.eip).end isl) w goes f)
  where
    apart : (a n : ℕ) → a < 0x100000000 → 1 ≤ n → n ≤ 15 → wrap (a + n) ≡ a → ⊥
    apart a n l p q e = omega (arith, l, p, q, e)
