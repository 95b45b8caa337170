-- The graph of an executable and edges is one list.
use Rattle.std.proofs.Common.{◌≡◌, ℕ, zero, suc, ◌+◌, ◌^◌, ◌<◌, ◌≤◌, Bool, true, false, ◌&&◌, ◌||◌, List, [], ◌∷◌, length, get_or, Option, Some, None, refl, sym, subst, ap, ◌∙◌, inl, inr, arith}
use Rattle.std.specs.Prelude.{Contains, All, IsTrue, map, ◌↔◌}
use Rattle.std.proofs.lemmas.List.Elements.{All-head, All-tail, All-contains, Contains-get_or}
use Rattle.std.proofs.lemmas.Bool.Decides.{nat_tests}
use Rattle.elf_read.specs.declared.exe.Exe.{Exe}
use Rattle.elf_read.specs.declared.exe.Segment.{Segment}
use Rattle.elf_read.specs.Elf.{AreSegments, IsGuest, in_segment, is_exec}
use Rattle.block_cut.specs.Blocks.{follow_of, EachFollowsAbove}
use Rattle.run_model.specs.Edges.{Edge}
use Rattle.trace_file.proofs.Union.{here, there, first_or_later}
use Rattle.trace_file.proofs.Unique.{none}
use Rattle.block_cut.specs.CountedEdges.{counting}
use Rattle.flow_graph.specs.Graph.{known_of, Leads, IsReached, IsStart, AreStarts, HasTooMany, Node, starts_in, IsGraph, AreCode}
use Rattle.flow_graph.specs.GraphOf.{from_some, chain, reached_from, starts_of, nodes_from, graph_of, OneGraph}
use Rattle.flow_graph.proofs.StartSets.{start_exec}
use Rattle.flow_graph.proofs.RowsShow.{counted_exec}
use Rattle.flow_graph.proofs.Ascending.{Up, Within, to_up, of_up, same_list, no_longer, at_first, from_starts, to_starts, up_starts}

-- ---- a start in code is below the end of memory

in_below : (exec : Bool) (at : ℕ) (s : Segment) → (exec && in_segment at s) ≡ true → at < s.start + s.size
in_below true at s e = grind (arith, nat_tests)
in_below false at s e = cc

exec_below : (low at : ℕ) (ss : List Segment) → AreSegments low ss → is_exec at ss ≡ true → at < 0xA0000000
exec_below low at [] each e = cc
exec_below low at (s ∷ ss) each e = go (s.perms.exec && in_segment at s) refl (exec_below low at ss each.1) e
  where
    go : (b : Bool) → (s.perms.exec && in_segment at s) ≡ b → (is_exec at ss ≡ true → at < 0xA0000000) → (b || is_exec at ss) ≡ true → at < 0xA0000000
    go true f rest e = omega (arith, in_below s.perms.exec at s f, each.0.high)
    go false f rest e = rest e

-- ---- walks of following starts

-- of an executable that is a guest, and the law of following starts
abbrev IsSure : Exe → Type 0
IsSure exe = IsGuest exe × EachFollowsAbove

above : (exe : Exe) (n s t : ℕ) → IsSure exe → Leads exe n s t → s + n ≤ t
above exe zero s t g h = omega (arith, h)
above exe (suc n) s t g h = omega (arith, above exe n s h.0 g h.1, (g.1 exe h.0 t h.2).0)

few : (exe : Exe) (n s t : ℕ) → IsSure exe → Leads exe n s t → n < 2 ^ 32
few exe zero s t g h = omega arith
few exe (suc n) s t g h = omega (arith, above exe (suc n) s t g h, exec_below 0x01000000 t exe.segments g.0.segments (g.1 exe h.0 t h.2).1)

-- by the first step
first_step : (exe : Exe) (n s t : ℕ) → Leads exe (suc n) s t → (u : ℕ) × (follow_of exe s ≡ Some u) × Leads exe n u t
first_step exe zero s t h = (t, ap (follow_of exe) h.1 ∙ h.2, refl)
first_step exe (suc n) s t h =
    let f = first_step exe n s h.0 h.1 in
    (f.0, f.1, (h.0, f.2, h.2))

step_before : (exe : Exe) (n s t u : ℕ) → follow_of exe s ≡ Some u → Leads exe n u t → Leads exe (suc n) s t
step_before exe zero s t u f h = (s, refl, f ∙ ap some h)
  where
    some : ℕ → Option ℕ
    some x = Some x
step_before exe (suc n) s t u f h = (h.0, step_before exe n s h.0 u f h.1, h.2)

-- ---- a chain has what is reached

has : (exe : Exe) (n k s t : ℕ) → k < n → Leads exe k s t → Contains (chain exe n s) t
unfolding chain
has exe zero k s t l h = absurd (omega arith)
has exe (suc n) zero s t l h = at_first s t (from_some (chain exe n) (follow_of exe s)) h
has exe (suc n) (suc k) s t l h =
    let f = first_step exe k s t h in
    let P : Option ℕ → Type 0 = λ x. Contains (from_some (chain exe n) x) t in
    there s t (from_some (chain exe n) (follow_of exe s)) (subst P (sym f.1) (has exe n k f.0 t (omega arith) f.2))

from_chain : (exe : Exe) (n s t : ℕ) → Contains (chain exe n s) t → IsReached exe s t
unfolding chain
from_chain exe zero s t c = absurd (none t c)
from_chain exe (suc n) s t c = elim (first_or_later s t (from_some (chain exe n) (follow_of exe s)) c) [
  | inl e ↦ (0, e)
  | inr d ↦ later (from_chain exe n) (follow_of exe s) refl d
]
  where
    later : ((s t : ℕ) → Contains (chain exe n s) t → IsReached exe s t) → (x : Option ℕ) → follow_of exe s ≡ x → Contains (from_some (chain exe n) x) t → IsReached exe s t
    later rest None e d = absurd (none t d)
    later rest (Some u) e d = let r = rest u t d in (suc r.0, step_before exe r.0 s t u e r.1)

has_reached : (exe : Exe) (s t : ℕ) → IsSure exe → IsReached exe s t → Contains (reached_from exe s) t
unfolding reached_from
has_reached exe s t g r = has exe (2 ^ 32) r.0 s t (few exe r.0 s t g r.1) r.1

from_reached : (exe : Exe) (s t : ℕ) → Contains (reached_from exe s) t → IsReached exe s t
unfolding reached_from
from_reached exe s t c = from_chain exe (2 ^ 32) s t c

-- ---- starts

up : (exe : Exe) (es : List Edge) → Up (starts_of exe es)
unfolding starts_of
up exe [] = tt
up exe (e ∷ es) = up_starts (reached_from exe e.1) (starts_of exe es) (up exe es)

to_start : (exe : Exe) (es : List Edge) (s : ℕ) → Contains (starts_of exe es) s → IsStart exe es s
unfolding starts_of
to_start exe [] s c = absurd (none s c)
to_start exe (e ∷ es) s c = elim (from_starts s (reached_from exe e.1) (starts_of exe es) c) [
  | inl d ↦ record { edge = e; traced = here e es; reached = from_reached exe e.1 s d }
  | inr d ↦ let h = to_start exe es s d in record { edge = h.edge; traced = there e h.edge es h.traced; reached = h.reached }
]

traced_reached : (exe : Exe) (es : List Edge) (e : Edge) (s : ℕ) → IsSure exe → Contains es e → IsReached exe e.1 s → Contains (starts_of exe es) s
unfolding starts_of
traced_reached exe [] e s g c r = absurd (none e c)
traced_reached exe (a ∷ es) e s g c r = to_starts s (reached_from exe a.1) (starts_of exe es) (elim (first_or_later a e es c) [
  | inl i ↦ inl (let P : Edge → Type 0 = λ x. Contains (reached_from exe x.1) s in subst P (sym i) (has_reached exe e.1 s g r))
  | inr d ↦ inr (traced_reached exe es e s g d r)
])

are_starts : (exe : Exe) (es : List Edge) → IsSure exe → AreStarts exe es (starts_of exe es)
are_starts exe es g = record {
  ascend = of_up (starts_of exe es) (up exe es);
  each = λ s. ((to_start exe es s), (λ h. traced_reached exe es h.edge s g h.traced h.reached));
}

same_starts : (exe : Exe) (es : List Edge) (xs ys : List ℕ) → AreStarts exe es xs → AreStarts exe es ys → xs ≡ ys
same_starts exe es xs ys h k = same_list xs ys (to_up xs h.ascend) (to_up ys k.ascend) (λ s c. (k.each s).1 ((h.each s).0 c)) (λ s c. (h.each s).1 ((k.each s).0 c))

-- ---- nodes

abbrev node : Exe → List Edge → ℕ → Node
node exe es s = record { start = s; known = known_of exe es s }

starts_in_map : (exe : Exe) (es : List Edge) (ss : List ℕ) → starts_in (map (node exe es) ss) ≡ ss
starts_in_map exe es [] = refl
starts_in_map exe es (s ∷ ss) = ap (λ zs. s ∷ zs) (starts_in_map exe es ss)

length_map : (exe : Exe) (es : List Edge) (ss : List ℕ) → length (map (node exe es) ss) ≡ length ss
length_map exe es [] = refl
length_map exe es (s ∷ ss) = omega (arith, length_map exe es ss)

node_is : (exe : Exe) (es : List Edge) (b : Node) → b.known ≡ known_of exe es b.start → b ≡ node exe es b.start
node_is exe es b h = ap (λ k. with_known b.start k) h
  where
    with_known : ℕ → List ℕ → Node
    with_known s k = record { start = s; known = k }

nodes_are : (exe : Exe) (es : List Edge) (g : List Node) → All (λ b. b.known ≡ known_of exe es b.start) g → g ≡ map (node exe es) (starts_in g)
nodes_are exe es [] h = refl
nodes_are exe es (b ∷ g) h =
    let P : Node → Type 0 = λ b. b.known ≡ known_of exe es b.start in
    ap (λ x. x ∷ g) (node_is exe es b (All-head P b g h)) ∙ ap (λ zs. node exe es b.start ∷ zs) (nodes_are exe es g (All-tail P b g h))

-- ---- the law, of edges that count

nodes_start : (exe : Exe) (es : List Edge) → IsSure exe → AreStarts exe es (starts_in (nodes_from exe es))
nodes_start exe es g =
    let P : List ℕ → Type 0 = λ ss. AreStarts exe es ss in
    subst P (sym (starts_in_map exe es (starts_of exe es))) (are_starts exe es g)

only_nodes : (exe : Exe) (es : List Edge) (g : List Node) → IsSure exe → IsGraph exe es g → g ≡ nodes_from exe es
only_nodes exe es g guest h =
    nodes_are exe es g h.known
    ∙ ap (λ ss. map (node exe es) ss) (same_starts exe es (starts_in g) (starts_of exe es) h.starts (are_starts exe es guest))

too_many : (exe : Exe) (es : List Edge) → IsSure exe → HasTooMany exe es ↔ (65536 < length (nodes_from exe es))
too_many exe es guest = (many, back)
  where
    many : HasTooMany exe es → 65536 < length (nodes_from exe es)
    many h =
        let within : Within h.0 (starts_of exe es) = λ s c. ((are_starts exe es guest).each s).1 (All-contains (IsStart exe es) h.0 s h.3 c) in
        let l = no_longer (starts_of exe es) h.0 (to_up h.0 h.1) (up exe es) within in
        omega (arith, l, h.2, length_map exe es (starts_of exe es))

    back : 65536 < length (nodes_from exe es) → HasTooMany exe es
    back l = (starts_of exe es, of_up (starts_of exe es) (up exe es), omega (arith, l, length_map exe es (starts_of exe es)), λ k d i. to_start exe es (get_or (starts_of exe es) k d) (Contains-get_or (starts_of exe es) k d i))

node_exec : (exe : Exe) (es : List Edge) (ss : List ℕ) → ((s : ℕ) → Contains ss s → IsTrue (is_exec s exe.segments)) → (k : ℕ) (d : Node) → k < length (map (node exe es) ss) → IsTrue (is_exec (get_or (map (node exe es) ss) k d).start exe.segments)
node_exec exe es [] h k d l = absurd (omega arith)
node_exec exe es (s ∷ ss) h zero d l = h s (here s ss)
node_exec exe es (s ∷ ss) h (suc k) d l = node_exec exe es ss (λ t c. h t (there s t ss c)) k d (omega arith)

are_code : (exe : Exe) (edges : List Edge) → EachFollowsAbove → AreCode exe (nodes_from exe (counting exe edges))
are_code exe edges law =
    let es = counting exe edges in
    let P : Edge → Type 0 = λ e. IsTrue (is_exec e.1 exe.segments) in
    let all = counted_exec exe edges es refl in
    node_exec exe es (starts_of exe es) (λ s c. start_exec exe es law (λ e in'. subst P in'.2 (all in'.0 e in'.1)) s (to_start exe es s c))

pub is_one_graph : EachFollowsAbove → OneGraph
unfolding graph_of
is_one_graph law = record {
  starts = λ exe edges guest. nodes_start exe (counting exe edges) (guest, law);
  only = λ exe edges g guest h. only_nodes exe (counting exe edges) g (guest, law) h;
  many = λ exe edges guest. too_many exe (counting exe edges) (guest, law);
  code = λ exe edges. are_code exe edges law;
}
