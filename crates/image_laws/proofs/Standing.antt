-- Where the parts of recovered code stand.
use Rattle.std.proofs.Common.{◌≡◌, ℕ, ◌+◌, ◌-◌, ◌≤◌, Bool, true, false, if◌then◌else◌, List, [], ◌∷◌, ◌++◌, length, map, None, refl, sym, ap, ◌∙◌, subst, arith, length-append, append_assoc}
use Rattle.std.proofs.lemmas.List.{append-nil}
use Rattle.br_word.specs.Memory.{Region, zeros}
use Rattle.elf_read.specs.declared.exe.Exe.{Exe}
use Rattle.ia_encode.specs.declared.item.Dest.{Dest}
use Rattle.ia_encode.specs.declared.item.Dest.TheVariants as dests
use Rattle.ia_encode.specs.declared.item.Item.{Item}
use Rattle.ia_encode.specs.declared.item.Item.TheVariants as item
use Rattle.ia_encode.specs.Items.{size_of_items, with_labels, AreDistinct, AreValid}
use Rattle.run_model.specs.Edges.{Edge}
use Rattle.block_cut.specs.CountedEdges.{counting}
use Rattle.block_cut.specs.Transfers.{is_among}
use Rattle.flow_graph.specs.Graph.{known_of, starts_in}
use Rattle.flow_graph.specs.GraphOf.{starts_of, graph_of}
use Rattle.ssa_form.specs.declared.form.BlockKey.{BlockKey}
use Rattle.par_moves.specs.Homes.{register_homes}
use Rattle.fall_stubs.specs.Exchange.{capture_items, opening_items, closing_items}
use Rattle.code_laws.specs.Valid.{CodeValid}
use Rattle.code_layout.specs.declared.place.TheConstants.{CODE_START, MAX_CODE}
use Rattle.code_layout.specs.Keys.{live_of, key_of, keys_of}
use Rattle.code_layout.specs.Linked.{entry_items, address_in, bytes_at, bytes_from, first_at, linked, fragments_of, has_key, code_of_keys, itself, code_of}
use Rattle.sim_runs.specs.Recovered.{is_start_of}
use Rattle.sim_runs.specs.Pieces.{IsLinked}
use Rattle.image_laws.specs.Coded.{key_at, start_items, entry_of, address_of, goes_with, coded_of}
use Rattle.image_laws.specs.Linked.{BeginsLinked, HasFragments, is_side_exit}
use Rattle.image_laws.specs.Stands.{CodeStands}
use Rattle.image_laws.proofs.Places.{JumpLengths, bytes_long, IsAmong, fragment_at, among, address_low}

-- ---- starts, keys and fragments

module _ (exe : Exe) (edges : List Edge) where
  abbrev starts : List ℕ
  starts = starts_of exe (counting exe edges)

  pub same_keys : keys_of exe edges ≡ map (key_at exe edges) starts
  unfolding keys_of graph_of
  same_keys = each starts
    where
      each : (xs : List ℕ) → map (key_of (live_of exe edges)) (map (λ s. record { start = s; known = known_of exe (counting exe edges) s }) xs) ≡ map (key_at exe edges) xs
      each [] = refl
      each (x ∷ xs) = ap (λ ks. key_at exe edges x ∷ ks) (each xs)

  pub same_starts : starts_in (graph_of exe edges) ≡ starts
  unfolding graph_of
  same_starts = each starts
    where
      each : (xs : List ℕ) → starts_in (map (λ s. record { start = s; known = known_of exe (counting exe edges) s }) xs) ≡ xs
      each [] = refl
      each (x ∷ xs) = ap (λ ks. x ∷ ks) (each xs)

  key_starts : map (λ (key : BlockKey). key.start) (keys_of exe edges) ≡ starts
  key_starts = ap (λ ks. map (λ (key : BlockKey). key.start) ks) same_keys ∙ each starts
    where
      each : (xs : List ℕ) → map (λ (key : BlockKey). key.start) (map (key_at exe edges) xs) ≡ xs
      each [] = refl
      each (x ∷ xs) = ap (λ ks. x ∷ ks) (each xs)

  pub known : (x : ℕ) → has_key (keys_of exe edges) x ≡ is_start_of exe edges x
  known x = ap (λ xs. is_among xs x) key_starts ∙ sym (ap (λ xs. is_among xs x) same_starts)

  pub same_fragments : fragments_of exe (keys_of exe edges) ≡ map (fragment_at (start_items exe edges)) starts
  same_fragments = ap (λ ks. fragments_of exe ks) same_keys ∙ each starts
    where
      each : (xs : List ℕ) → fragments_of exe (map (key_at exe edges) xs) ≡ map (fragment_at (start_items exe edges)) xs
      each [] = refl
      each (x ∷ xs) = ap (λ ks. fragment_at (start_items exe edges) x ∷ ks) (each xs)

-- ---- the whole code

no_more : (bytes : List ℕ) → bytes ++ zeros (length bytes - length bytes) ≡ bytes
unfolding zeros
no_more bytes = let z : length bytes - length bytes ≡ 0 = omega arith in ap (λ n. bytes ++ zeros n) z ∙ append-nil bytes

pub same_bytes : (exe : Exe) (edges : List Edge) → (coded_of exe edges).code.bytes ≡ code_of exe edges
same_bytes exe edges = no_more (code_of exe edges)

pub whole : (out : ℕ → ℕ) (exe : Exe) (edges : List Edge) → code_of_keys out exe (keys_of exe edges) ≡ bytes_at (goes_with out exe edges) CODE_START (entry_of exe edges) ++ bytes_from (goes_with out exe edges) (first_at (entry_of exe edges)) (fragments_of exe (keys_of exe edges))
unfolding linked
whole out exe edges = refl

by_keys : (exe : Exe) (edges : List Edge) → code_of exe edges ≡ code_of_keys itself exe (keys_of exe edges)
unfolding code_of
by_keys exe edges = refl

pub begins_built : (exe : Exe) (edges : List Edge) → BeginsLinked exe edges itself (coded_of exe edges).code
begins_built exe edges = record {
  start = refl;
  behind = [];
  bytes = same_bytes exe edges ∙ by_keys exe edges ∙ sym (append-nil (code_of_keys itself exe (keys_of exe edges)));
  small = λ i. omega arith;
}

one_way : (b : Bool) (y : ℕ) → y ≡ (if b then y else y)
one_way true y = refl
one_way false y = refl

pub built : (exe : Exe) (edges : List Edge) → length (code_of exe edges) ≤ MAX_CODE → HasFragments exe edges itself (coded_of exe edges)
built exe edges room = let q = ap length (same_bytes exe edges) in record {
  here = record { below = omega (arith, q, room); runs = refl };
  begins = begins_built exe edges;
  registers = record { home = refl; live = refl };
  address = refl;
  beyond = λ x y. one_way (is_side_exit exe edges x y) y;
  low = λ y l. l;
}

size_jump : (is : List Item) (d : Dest) → 5 ≤ size_of_items (is ++ (item.Jump None d ∷ []))
size_jump [] d = omega arith
size_jump (i ∷ is) d = let q = size_jump is d in omega (arith, q)

entry_size : (entry : ℕ) (b : Bool) → 5 ≤ size_of_items (entry_items entry b)
entry_size entry true = size_jump (capture_items register_homes) (dests.Block entry)
entry_size entry false = omega arith

pub entry_some : JumpLengths → (exe : Exe) (edges : List Edge) → 5 ≤ length (code_of exe edges)
entry_some laws exe edges =
    let goes = goes_with itself exe edges in
    let first = bytes_at goes CODE_START (entry_of exe edges) in
    let rest = bytes_from goes (first_at (entry_of exe edges)) (fragments_of exe (keys_of exe edges)) in
    let a = ap length (by_keys exe edges ∙ whole itself exe edges) ∙ length-append first rest in
    let b = bytes_long laws (with_labels goes CODE_START (entry_of exe edges)) (entry_of exe edges) CODE_START in
    let c = entry_size exe.entry (has_key (keys_of exe edges) exe.entry) in
    omega (arith, a, b, c)

module _ (laws : JumpLengths) (exe : Exe) (edges : List Edge) (out : ℕ → ℕ) (code : Region) (has : BeginsLinked exe edges out code) where
  abbrev goes : Dest → ℕ
  goes = goes_with out exe edges

  abbrev pub entry_bytes : List ℕ
  entry_bytes = bytes_at goes CODE_START (entry_of exe edges)

  abbrev from : ℕ
  from = first_at (entry_of exe edges)

  abbrev rest_bytes : List ℕ
  rest_bytes = bytes_from goes from (fragments_of exe (keys_of exe edges))

  all_bytes : code.bytes ≡ entry_bytes ++ (rest_bytes ++ has.behind)
  all_bytes = has.bytes ∙ ap (λ bs. bs ++ has.behind) (whole out exe edges) ∙ append_assoc entry_bytes rest_bytes has.behind

  entry_long : length entry_bytes ≡ size_of_items (entry_of exe edges)
  entry_long = bytes_long laws (with_labels goes CODE_START (entry_of exe edges)) (entry_of exe edges) CODE_START

  pub low : (y : ℕ) → address_of exe edges y ≤ code.start + length code.bytes
  low y =
      let q = address_low laws goes (fragments_of exe (keys_of exe edges)) from y in
      let a = ap length all_bytes ∙ length-append entry_bytes (rest_bytes ++ has.behind) in
      let b = length-append rest_bytes has.behind in
      omega (arith, q, a, b, entry_long, has.start)

  module _ (x : ℕ) (start : is_start_of exe edges x ≡ true) where
    pub place : IsAmong goes rest_bytes from (address_of exe edges x) (start_items exe edges x)
    place =
        let held : is_among (starts exe edges) x ≡ true = sym (ap (λ xs. is_among xs x) (same_starts exe edges)) ∙ start in
        subst (λ fs. IsAmong goes (bytes_from goes from fs) from (address_in from fs x) (start_items exe edges x)) (sym (same_fragments exe edges))
        (among laws goes (start_items exe edges) (starts exe edges) from x held)

    abbrev pub own : List ℕ
    own = bytes_at goes (address_of exe edges x) (start_items exe edges x)

    -- what stands before it, and behind
    abbrev pub front : List ℕ
    front = entry_bytes ++ place.front

    abbrev pub behind : List ℕ
    behind = place.behind ++ has.behind

    pub parts : code.bytes ≡ front ++ (own ++ behind)
    parts =
        all_bytes
        ∙ ap (λ bs. entry_bytes ++ (bs ++ has.behind)) place.bytes
        ∙ ap (λ bs. entry_bytes ++ bs) (append_assoc place.front (own ++ place.behind) has.behind ∙ ap (λ bs. place.front ++ bs) (append_assoc own place.behind has.behind))
        ∙ sym (append_assoc entry_bytes place.front (own ++ behind))

    pub begins : address_of exe edges x ≡ code.start + length front
    begins =
        let both = length-append entry_bytes place.front in
        omega (arith, place.place, entry_long, both, has.start)

    pub stands : AreValid (start_items exe edges x) → AreDistinct (start_items exe edges x) → IsLinked code goes (address_of exe edges x) (start_items exe edges x)
    stands valid distinct = record {
      front = front;
      behind = behind;
      bytes = parts;
      place = begins;
      valid = valid;
      distinct = distinct;
    }

    pub inside : address_of exe edges x + size_of_items (start_items exe edges x) ≤ code.start + length code.bytes
    inside =
        let long = bytes_long laws (with_labels goes (address_of exe edges x) (start_items exe edges x)) (start_items exe edges x) (address_of exe edges x) in
        let all = ap length parts ∙ length-append front (own ++ behind) in
        let rest = length-append own behind in
        omega (arith, begins, long, all, rest)

-- ---- the entry

valid_behind : (is js : List Item) → AreValid (is ++ js) → AreValid js
valid_behind [] js h = h
valid_behind (item.Inst i ∷ is) js h = valid_behind is js h.1
valid_behind (item.Byte b ∷ is) js h = valid_behind is js h
valid_behind (item.Jump c d ∷ is) js h = valid_behind is js h.1
valid_behind (item.Label l ∷ is) js h = valid_behind is js h

distinct_behind : (is js : List Item) → AreDistinct (is ++ js) → AreDistinct js
distinct_behind [] js h = h
distinct_behind (item.Inst i ∷ is) js h = distinct_behind is js h
distinct_behind (item.Byte b ∷ is) js h = distinct_behind is js h
distinct_behind (item.Jump c d ∷ is) js h = distinct_behind is js h
distinct_behind (item.Label l ∷ is) js h = distinct_behind is js h.1

module _ (valid : CodeValid) where
  pub closing_valid : (next : Dest) → AreValid (closing_items register_homes next)
  closing_valid next = valid_behind (opening_items register_homes 0) (closing_items register_homes next) (valid.island register_homes valid.homes [] 0 next)

  pub closing_distinct : (next : Dest) → AreDistinct (closing_items register_homes next)
  closing_distinct next = distinct_behind (opening_items register_homes 0) (closing_items register_homes next) (valid.labels register_homes [] 0 next)

  entry_valid : (entry : ℕ) (b : Bool) → AreValid (entry_items entry b)
  entry_valid entry true = closing_valid (dests.Block entry)
  entry_valid entry false = (tt, tt)

  entry_distinct : (entry : ℕ) (b : Bool) → AreDistinct (entry_items entry b)
  entry_distinct entry true = closing_distinct (dests.Block entry)
  entry_distinct entry false = tt

  pub entry_stands : (exe : Exe) (edges : List Edge) (out : ℕ → ℕ) (code : Region) → BeginsLinked exe edges out code → IsLinked code (goes_with out exe edges) CODE_START (entry_of exe edges)
  entry_stands exe edges out code has = record {
    front = [];
    behind = bytes_from (goes_with out exe edges) (first_at (entry_of exe edges)) (fragments_of exe (keys_of exe edges)) ++ has.behind;
    bytes = has.bytes ∙ ap (λ bs. bs ++ has.behind) (whole out exe edges) ∙ append_assoc (bytes_at (goes_with out exe edges) CODE_START (entry_of exe edges)) (bytes_from (goes_with out exe edges) (first_at (entry_of exe edges)) (fragments_of exe (keys_of exe edges))) has.behind;
    place = omega (arith, has.start);
    valid = entry_valid exe.entry (has_key (keys_of exe edges) exe.entry);
    distinct = entry_distinct exe.entry (has_key (keys_of exe edges) exe.entry);
  }

pub code_stands : JumpLengths → CodeValid → CodeStands
code_stands laws valid = record {
  known = known;
  entry = entry_stands valid;
  fragment = stands laws;
  inside = inside laws;
  bytes = same_bytes;
  built = built;
}
