-- Known exits are addresses of code, and fixed exits have 32 bits.
use Rattle.std.proofs.Common.{◌≡◌, ℕ, ◌+◌, ◌^◌, ◌<◌, ◌==◌, Bool, true, false, ◌||◌, ◌&&◌, if◌then◌else◌, List, [], ◌∷◌, map, filter, refl, sym, subst, arith}
use Rattle.std.specs.Prelude.{option_to_list, All}
use Rattle.std.specs.Bool.{then_some}
use Rattle.std.proofs.lemmas.Nat.{mod_below}
use Rattle.std.proofs.lemmas.Bool.{and_parts, eqb-true}
use Rattle.std.proofs.lemmas.List.Elements.{All-head, All-tail}
use Rattle.elf_read.specs.declared.exe.Exe.{Exe}
use Rattle.elf_read.specs.Elf.{is_exec, IsGuest}
use Rattle.elf_read.proofs.Accepted.{entry_bound}
use Rattle.ia_inst.specs.declared.inst.Inst.{Inst}
use Rattle.ia_inst.specs.declared.inst.Inst.TheVariants.{Jcc, Jmp, JmpRm, Call, CallRm, Ret}
use Rattle.ia_inst.specs.Meaning.{wrap}
use Rattle.run_model.specs.Edges.{Edge}
use Rattle.block_cut.specs.declared.ends.End.{End}
use Rattle.block_cut.specs.declared.ends.End.TheVariants.{Transfer, Island, BeforeIsland, Unreadable, Full}
use Rattle.block_cut.specs.Places.{Placed}
use Rattle.block_cut.specs.Transfers.{is_among, leads_to}
use Rattle.block_cut.specs.CountedEdges.{is_beginning, counts, counting}
use Rattle.block_cut.specs.Blocks.{block_of, last_of, is_followed, next_of, follow_of}
use Rattle.flow_graph.specs.Graph.{targets_from, known_by, known_of}
use Rattle.ssa_form.specs.declared.form.Val.{Val}
use Rattle.ssa_form.specs.declared.form.Exit.{Exit}
use Rattle.ssa_form.specs.declared.form.Exit.TheVariants as exits
use Rattle.ssa_form.specs.declared.form.Block.{Block}
use Rattle.lift_alu.specs.Lifted.{leaving_of, row_of, draft_of, exit_by, lifted}
use Rattle.lift_alu.specs.Steps.{row_steps, unnamed}
use Rattle.lift_flow.specs.LiftedBlock.{blank, lifted_all, lifted_to, lift_of}
use Rattle.block_make.specs.Keys.{IsKey}
use Rattle.block_make.specs.Laws.{AreWords}
use Rattle.sim_runs.specs.Pieces.{is_out}
use Rattle.image_laws.specs.Coded.{key_at}

-- ---- known exits

abbrev AreCode : Exe → List ℕ → Type 0
AreCode exe [] = Unit {0}
AreCode exe (y ∷ ys) = (is_exec y exe.segments ≡ true) × AreCode exe ys

module _ (exe : Exe) where
  counts_code : (e : Edge) → counts exe e ≡ true → is_exec e.1 exe.segments ≡ true
  unfolding counts
  counts_code e h = (and_parts (is_exec e.1 exe.segments) (is_beginning exe e || leads_to exe e.0 e.1) h).0

  abbrev ends : List Edge → List ℕ
  ends es = map (λ (e : Edge). e.1) es

  at_site : (b : Bool) (x : Edge) (more : List Edge) → is_exec x.1 exe.segments ≡ true → AreCode exe (ends more) → AreCode exe (ends (if b then (x ∷ more) else more))
  at_site true x more h r = (h, r)
  at_site false x more h r = r

  kept_edge : (site : ℕ) (b : Bool) (x : Edge) (more : List Edge) → counts exe x ≡ b → AreCode exe (targets_from site more) → AreCode exe (targets_from site (if b then (x ∷ more) else more))
  kept_edge site true x more h r = at_site (x.0 == site) x (filter (λ (e : Edge). e.0 == site) more) (counts_code x h) r
  kept_edge site false x more h r = r

  targets_code : (site : ℕ) (edges : List Edge) → AreCode exe (targets_from site (counting exe edges))
  targets_code site [] = tt
  targets_code site (x ∷ edges) = kept_edge site (counts exe x) x (counting exe edges) refl (targets_code site edges)

  follow_code : (x : ℕ) → AreCode exe (option_to_list (follow_of exe x))
  unfolding follow_of
  follow_code x = go (is_followed (block_of exe x).end) (is_exec (next_of exe x) exe.segments) refl
    where
      go : (a b : Bool) → is_exec (next_of exe x) exe.segments ≡ b → AreCode exe (option_to_list (then_some (a && b) (next_of exe x)))
      go true true e = (e, tt)
      go true false e = tt
      go false b e = tt

  known_code : (edges : List Edge) (x : ℕ) → AreCode exe (known_of exe (counting exe edges) x)
  unfolding known_of
  known_code edges x = by_end (block_of exe x).end
    where
      by_end : (e : End) → AreCode exe (known_by e (targets_from (last_of x (block_of exe x).insts) (counting exe edges)) (option_to_list (follow_of exe x)))
      by_end Transfer = targets_code (last_of x (block_of exe x).insts) edges
      by_end Island = follow_code x
      by_end BeforeIsland = follow_code x
      by_end Unreadable = follow_code x
      by_end Full = follow_code x

  pub code_small : IsGuest exe → (y : ℕ) → is_exec y exe.segments ≡ true → y < 2 ^ 32
  code_small guest y e = entry_bound 0x01000000 y exe.segments guest.segments e

  words_of : IsGuest exe → (live : ℕ → ℕ) (ys : List ℕ) → AreCode exe ys → AreWords (map (λ y. (y, live y)) ys)
  words_of guest live [] h = tt
  words_of guest live (y ∷ ys) h = (code_small guest y h.0, words_of guest live ys h.1)

  pub exits_small : IsGuest exe → (edges : List Edge) (x : ℕ) → AreWords (key_at exe edges x).exits
  exits_small guest edges x = words_of guest _ _ (known_code edges x)

  -- ---- keys

  pub key_here : (edges : List Edge) (xs : List ℕ) (x : ℕ) → All (IsKey exe) (map (key_at exe edges) xs) → is_among xs x ≡ true → IsKey exe (key_at exe edges x)
  key_here edges [] x h m = absurd (let e : false ≡ true = m in cc)
  key_here edges (y ∷ ys) x h m = decide (x == y) refl m (λ n. key_here edges ys x (All-tail (IsKey exe) (key_at exe edges y) (map (key_at exe edges) ys) h) n)
    where
      decide : (b : Bool) → (x == y) ≡ b → (b || is_among ys x) ≡ true → (is_among ys x ≡ true → IsKey exe (key_at exe edges x)) → IsKey exe (key_at exe edges x)
      decide true e m more = subst (λ z. IsKey exe (key_at exe edges z)) (sym (eqb-true x y e)) (All-head (IsKey exe) (key_at exe edges y) (map (key_at exe edges) ys) h)
      decide false e m more = more m

-- ---- fixed exits

abbrev IsSmall : Exit → Type 0
IsSmall (exits.Jump to) = to < 2 ^ 32
IsSmall (exits.Cond test taken next) = (taken < 2 ^ 32) × (next < 2 ^ 32)
IsSmall (exits.Way v) = Unit {0}
IsSmall (exits.Island len) = Unit {0}

wrap_small : (n : ℕ) → wrap n < 2 ^ 32
wrap_small n = mod_below n (2 ^ 32) (omega arith)

leaving_small : (i : Inst) (next : ℕ) (vals : ℕ → Val) → next < 2 ^ 32 → IsSmall (exit_by (leaving_of i next) vals)
leaving_small (Jcc c rel) next vals h = (wrap_small (next + rel), h)
leaving_small (Jmp rel) next vals h = wrap_small (next + rel)
leaving_small (Call rel) next vals h = wrap_small (next + rel)
leaving_small (JmpRm a) next vals h = tt
leaving_small (CallRm a) next vals h = tt
leaving_small (Ret pop) next vals h = tt
leaving_small _ next vals h = h

lifted_small : (i : Inst) (at n : ℕ) (b : Block) → IsSmall (lifted i at n b).exit
unfolding lifted
lifted_small i at n b = leaving_small i (wrap (at + n)) (row_steps (row_of i (wrap (at + n))) (unnamed (draft_of b))).vals (wrap_small (at + n))

all_small : (is : List Placed) (b : Block) → IsSmall b.exit → IsSmall (lifted_all is b).exit
all_small [] b h = h
all_small (p ∷ ps) b h = all_small ps (lifted p.inst p.at p.size b) (lifted_small p.inst p.at p.size b)

exit_small : (exe : Exe) (x : ℕ) → x < 2 ^ 32 → IsSmall (lift_of exe x).exit
unfolding lift_of
exit_small exe x h = by_end (block_of exe x).end
  where
    is : List Placed
    is = (block_of exe x).insts

    by_end : (e : End) → IsSmall (lifted_to e is x).exit
    by_end Transfer = all_small is (blank x) h
    by_end Island = tt
    by_end BeforeIsland = all_small is (blank x) h
    by_end Unreadable = all_small is (blank x) h
    by_end Full = all_small is (blank x) h

same_small : (y to : ℕ) → to < 2 ^ 32 → (y == to) ≡ true → y < 2 ^ 32
same_small y to l h = let e = eqb-true y to h in omega (arith, e, l)

out_small : (e : Exit) (y : ℕ) → IsSmall e → is_out e y ≡ true → y < 2 ^ 32
out_small (exits.Jump to) y s h = same_small y to s h
out_small (exits.Cond test taken next) y s h = either (y == taken) refl h
  where
    either : (b : Bool) → (y == taken) ≡ b → (b || (y == next)) ≡ true → y < 2 ^ 32
    either true e h = same_small y taken s.0 e
    either false e h = same_small y next s.1 h
out_small (exits.Way v) y s h = absurd (let e : false ≡ true = h in cc)
out_small (exits.Island len) y s h = absurd (let e : false ≡ true = h in cc)

pub outs_small : (exe : Exe) (x : ℕ) → x < 2 ^ 32 → (y : ℕ) → is_out (lift_of exe x).exit y ≡ true → y < 2 ^ 32
outs_small exe x l y h = out_small (lift_of exe x).exit y (exit_small exe x l) h
