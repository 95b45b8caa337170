-- Ways by what is found, and starts by their index.
use Rattle.std.proofs.Common.{◌≡◌, ℕ, ◌+◌, ◌<◌, ◌^◌, Bool, true, false, ◌&&◌, not, List, [], ◌∷◌, ◌++◌, length, get_or, Option, Some, None, refl, sym, ap, ◌∙◌, arith}
use Rattle.std.specs.Prelude.{◌↔◌, is_some}
use Rattle.std.proofs.lemmas.List.{get_or-map, length-map}
use Rattle.elf_read.specs.declared.exe.Exe.{Exe}
use Rattle.elf_read.specs.Elf.{is_exec}
use Rattle.ia_inst.specs.declared.inst.Inst.{Inst}
use Rattle.ia_inst.specs.Meaning.{wrap}
use Rattle.ia_inst.specs.Step.{Found, NoCode, NoInst, There, found_from}
use Rattle.block_cut.specs.Places.{found_at, inst_found}
use Rattle.block_cut.specs.Transfers.{direct_targets, is_among}
use Rattle.block_cut.specs.declared.ends.End.TheVariants as ends
use Rattle.block_cut.specs.declared.ends.Cut.{Cut}
use Rattle.block_cut.specs.Blocks.{block_of, cut_of}
use Rattle.cold_cut.specs.declared.ends.ColdEnd.TheVariants.{Full}
use Rattle.cold_cut.specs.declared.ends.ColdCut.{ColdCut}
use Rattle.cold_cut.specs.ColdBlocks.{cold_of, cold_cut_of}
use Rattle.flow_graph.specs.Graph.{Node, node_at, starts_in, StartsAt}
use Rattle.cold_set.specs.ColdStarts.{behind_call, leads_on, leaves_by, leaves, ways_by, ways, is_free}
use Rattle.cold_set.proofs.Members.{of_among, to_among}

there : (f : Found) (i : Inst) (n : ℕ) → Some (i, n) ≡ inst_found f → f ≡ There i n
there NoCode i n e = cc
there NoInst i n e = cc
there (There j m) i n e = sym (ap found_from e)

-- what is found is this instruction
pub led : (exe : Exe) (site : ℕ) (i j : Inst) (n : ℕ) → Some (i, n) ≡ inst_found (found_at exe site) → i ≡ j → direct_targets j n site ++ behind_call j (wrap (site + n)) ≡ leads_on (found_at exe site) site
led exe site i j n f e =
    ap (λ j. direct_targets j n site ++ behind_call j (wrap (site + n))) (sym e)
    ∙ ap (λ f. leads_on f site) (sym (there (found_at exe site) i n f))

pub unreadable_leaves : (exe : Exe) (start : ℕ) (c : Cut) → c ≡ cut_of start (block_of exe start) → c.end ≡ ends.Unreadable → (start + c.len) ∷ [] ≡ leaves exe start
unreadable_leaves exe start c is e =
    ap (leaves_by exe start c) (sym e) ∙ ap (λ (c : Cut). leaves_by exe start c c.end) is

pub full_goes : (exe : Exe) (start : ℕ) (c : ColdCut) → c ≡ cold_cut_of start (cold_of exe start) → c.end ≡ Full → (start + c.len) ∷ [] ≡ ways exe start
full_goes exe start c is e =
    ap (ways_by exe start c) (sym e) ∙ ap (λ (c : ColdCut). ways_by exe start c c.end) is

-- ---- starts by their index

is_start : (nodes : List Node) (x : ℕ) (o : Option ℕ) → ((i : ℕ) → (o ≡ Some i) ↔ StartsAt nodes i x) → is_some o ≡ is_among (starts_in nodes) x
is_start nodes x (Some i) h =
    let s = (h i).0 refl in
    let l = length-map nodes (λ (b : Node). b.start) in
    sym (to_among (starts_in nodes) x (i, omega (arith, s.0, l), get_or-map (λ (b : Node). b.start) nodes i (record { start = 0; known = [] }) x s.0 ∙ s.1))
is_start nodes x None h = go (is_among (starts_in nodes) x) refl
  where
    go : (b : Bool) → is_among (starts_in nodes) x ≡ b → false ≡ b
    go false e = refl
    go true e =
        let c = of_among (starts_in nodes) x e in
        let l = length-map nodes (λ (b : Node). b.start) in
        let inside : c.0 < length nodes = omega (arith, c.1, l) in
        let at : StartsAt nodes c.0 x = (inside, sym (get_or-map (λ (b : Node). b.start) nodes c.0 (record { start = 0; known = [] }) x inside) ∙ c.2) in
        let bad : None ≡ Some c.0 = (h c.0).1 at in
        cc

pub free_is : (exe : Exe) (nodes : List Node) (x : ℕ) (o : Option ℕ) (b : Bool) → is_exec x exe.segments ≡ true → ((i : ℕ) → (o ≡ Some i) ↔ StartsAt nodes i x) → is_some o ≡ not b → b ≡ is_free exe (starts_in nodes) x
free_is exe nodes x o b e h n =
    turned b (is_among (starts_in nodes) x) (sym (is_start nodes x o h) ∙ n) ∙ ap (λ c. c && not (is_among (starts_in nodes) x)) (sym e)
  where
    turned : (b c : Bool) → c ≡ not b → b ≡ not c
    turned true c f = ap not (sym f)
    turned false c f = ap not (sym f)

pub start_is : (nodes : List Node) (i : ℕ) → i < length nodes → (node_at nodes i).start ≡ get_or (starts_in nodes) i 0
start_is nodes i l = sym (get_or-map (λ (b : Node). b.start) nodes i (record { start = 0; known = [] }) 0 l)

-- an address of 32 bits
pub unwrapped : (x : ℕ) → x < 2 ^ 32 → x ≡ wrap x
unwrapped x l = omega (arith, l)

pub none_left : (xs : List ℕ) → length xs ≡ 0 → xs ≡ []
none_left [] e = refl
none_left (x ∷ xs) e = absurd (omega (arith, e))
