-- The exchange of state round native instructions and at the entry.
use Rattle.std.proofs.Common.{◌≡◌, ℕ, zero, suc, ◌+◌, ◌*◌, ◌^◌, ◌<◌, ◌≤◌, Bool, true, false, ◌&&◌, if◌then◌else◌, List, [], ◌∷◌, length, take, drop, map, get_or, Some, None, refl, sym, ap, ◌∙◌, subst, arith, ⊎_elim}
use Rattle.std.specs.Prelude.{option_to_list, ◌==◌, ◌||◌, ◌≢◌}
use Rattle.std.specs.Bool.{then_some}
use Rattle.std.proofs.lemmas.Bool.Decides.{eqb_tells}
use Rattle.br_word.specs.Memory.{Region, number_of}
use Rattle.br_word.specs.State.{State}
use Rattle.elf_read.specs.declared.exe.Exe.{Exe}
use Rattle.elf_read.specs.Elf.{IsOriginal, is_exec}
use Rattle.elf_read.proofs.Accepted.{entry_bound}
use Rattle.ia_inst.specs.Meaning.{wrap}
use Rattle.ia_encode.specs.declared.item.Dest.{Dest}
use Rattle.ia_encode.specs.declared.item.Dest.TheVariants as dests
use Rattle.ia_encode.specs.declared.item.Item.{Item}
use Rattle.ia_encode.specs.Items.{size_of_items, with_labels, Stands, ItemsStand}
use Rattle.run_model.specs.Edges.{Edge}
use Rattle.run_model.specs.Run.{observed}
use Rattle.block_cut.specs.declared.ends.End.TheVariants.{Island}
use Rattle.block_cut.specs.CountedEdges.{counting}
use Rattle.block_cut.specs.Transfers.{is_among}
use Rattle.block_cut.specs.Blocks.{last_of, block_of, is_followed, next_of, follow_of}
use Rattle.flow_graph.specs.Graph.{targets_from, known_by, known_of}
use Rattle.par_moves.specs.declared.locations.Place.{Place}
use Rattle.par_moves.specs.declared.locations.Place.TheVariants.{Reg, Slot}
use Rattle.par_moves.specs.Locations.{InRange}
use Rattle.par_moves.specs.Homes.{register_homes}
use Rattle.fall_stubs.specs.Exchange.{island_items}
use Rattle.ssa_form.specs.Agree.{AreBits}
use Rattle.block_make.specs.Keys.{live_at}
use Rattle.block_make.specs.FragmentItems.{dest_of}
use Rattle.code_laws.specs.Seen.{Cells, word, IsCode, Sees}
use Rattle.code_laws.specs.Laws.{JumpsLead, own_start}
use Rattle.code_laws.specs.Valid.{CodeValid}
use Rattle.code_layout.specs.declared.place.TheConstants.{CODE_START, MAX_CODE}
use Rattle.code_layout.specs.Keys.{live_of}
use Rattle.code_layout.specs.Linked.{entry_items, itself, code_of}
use Rattle.sim_runs.specs.Relation.{Plan, at_home}
use Rattle.sim_runs.specs.Laws.{Leads, Opens, Captured, past}
use Rattle.sim_runs.specs.Image.{Capturable}
use Rattle.sim_runs.specs.Pieces.{IsLinked}
use Rattle.sim_runs.specs.Recovered.{is_island_end, is_start_of, knows_of, plan_of}
use Rattle.sim_runs.specs.Promised.{Exchanges}
use Rattle.piece_laws.specs.Exchange.{HomesMeet, OpensJoined, ClosesJoined, EntersJoined}
use Rattle.image_laws.specs.Coded.{key_at, entry_of, address_of, goes_with, coded_of}
use Rattle.image_laws.specs.Exchanged.{StatesExchanged}
use Rattle.image_laws.proofs.Standing.{same_bytes, begins_built, known, low, stands, entry_stands}
use Rattle.image_laws.proofs.NativeCode.{Decodes, is_native, next_of as next_dest, own_of, native_items, native_inside, own_long}
use Rattle.image_laws.proofs.Leading.{leads_within}

-- ---- what is seen before a capture

own_cell : State → List ℕ → Place → ℕ
own_cell t own (Reg r) = get_or t.cpu.regs r 0
own_cell t own (Slot k) = word own k

abbrev first : State → List ℕ → List Region → Cells
first t own outer = record {
  cell = own_cell t own;
  flags = t.cpu.flags;
  marks = t.cpu.marks;
  df = t.cpu.df;
  outer = outer;
  seen = observed t;
  brk_start = t.brk_start;
  brk = t.brk;
}

low_drop : (k : ℕ) (l : List ℕ) → ((i : ℕ) → get_or l i 0 < 256) → (i : ℕ) → get_or (drop k l) i 0 < 256
low_drop zero l h i = h i
low_drop (suc k) [] h i = h i
low_drop (suc k) (b ∷ l) h i = low_drop k l (λ j. h (suc j)) i

low_word : (l : List ℕ) → ((i : ℕ) → get_or l i 0 < 256) → number_of (take 4 l) < 2 ^ 32
unfolding number_of
low_word [] h = omega arith
low_word (a ∷ []) h = let p = h 0 in omega (arith, p)
low_word (a ∷ b ∷ []) h = let p = h 0 in let q = h 1 in omega (arith, p, q)
low_word (a ∷ b ∷ c ∷ []) h = let p = h 0 in let q = h 1 in let r = h 2 in omega (arith, p, q, r)
low_word (a ∷ b ∷ c ∷ d ∷ l) h = let p = h 0 in let q = h 1 in let r = h 2 in let s = h 3 in omega (arith, p, q, r, s)

module _ (plan : Plan) (outer : List Region) (t : State) (c : Capturable plan outer t) where
  abbrev a : Cells
  a = first t c.own outer

  sees : Sees plan.code t a
  unfolding own_cell
  sees = record {
    own = c.own;
    regions = c.mem;
    slots = record { size = c.ready.size; bytes = c.ready.bytes; words = λ k l. refl };
    regs = record { count = c.count; each = λ r l. refl };
    small = small;
    flags = refl;
    marks = refl;
    df = refl;
    seen = refl;
    brk_start = refl;
    brk = refl;
    running = c.goes;
  }
    where
      small : (p : Place) → InRange p → own_cell t c.own p < 2 ^ 32
      small (Reg r) l = c.small r l
      small (Slot k) l = low_word (drop (4 * k) c.own) (low_drop (4 * k) c.own c.ready.bytes)

-- ---- the block behind a native instruction

known_behind : (exe : Exe) (edges : List Edge) (x y : ℕ) → is_island_end (block_of exe x).end ≡ true → knows_of exe edges x y ≡ true → y ≡ next_of exe x
unfolding known_of follow_of
known_behind exe edges x y i k =
    let b = block_of exe x in
    let targets = targets_from (last_of x b.insts) (counting exe edges) in
    let follows = then_some (is_followed b.end && is_exec (next_of exe x) exe.segments) (next_of exe x) in
    let e : is_among (known_by Island targets (option_to_list follows)) y ≡ true = sym (ap (λ e. is_among (known_by e targets (option_to_list follows)) y) (is_native b.end i)) ∙ k in
    decide (is_followed b.end && is_exec (next_of exe x) exe.segments) e
  where
    same : (v : ℕ) → ((y == v) || false) ≡ true → y ≡ v
    same v h = ⊎_elim
        (λ (q : ((y == v) ≡ true) × (y ≡ v)). q.1)
        (λ (q : ((y == v) ≡ false) × (y ≢ v)). let f : false ≡ true = sym (ap (λ b. b || false) q.0) ∙ h in absurd (cc))
        (eqb_tells y v)

    decide : (b : Bool) → is_among (option_to_list (then_some b (next_of exe x))) y ≡ true → y ≡ next_of exe x
    decide true h = same (next_of exe x) h
    decide false h = absurd (let f : false ≡ true = h in cc)

pub live_there : (live : ℕ → ℕ) (ys : List ℕ) (y : ℕ) → is_among ys y ≡ true → live_at (map (λ y. (y, live y)) ys) y ≡ Some (live y)
live_there live [] y h = absurd (let f : false ≡ true = h in cc)
live_there live (z ∷ ys) y h = ⊎_elim
    (λ (q : ((z == y) ≡ true) × (z ≡ y)). ap (λ b. if b then Some (live z) else live_at (map (λ y. (y, live y)) ys) y) q.0 ∙ ap (λ v. Some (live v)) q.1)
    (λ (q : ((z == y) ≡ false) × (z ≢ y)). ap (λ b. if b then Some (live z) else live_at (map (λ y. (y, live y)) ys) y) q.0 ∙ live_there live ys y (later q.1))
    (eqb_tells z y)
  where
    later : (z ≢ y) → is_among ys y ≡ true
    later n = ⊎_elim
        (λ (q : ((y == z) ≡ true) × (y ≡ z)). absurd (n (sym q.1)))
        (λ (q : ((y == z) ≡ false) × (y ≢ z)). sym (ap (λ c. c || is_among ys y) q.0) ∙ h)
        (eqb_tells y z)

-- ---- the exchange

pub record Exchanging : Type 0 where
  pub decodes : Decodes
  pub valid : CodeValid
  pub stand : ItemsStand
  pub opening : OpensJoined
  pub closing : ClosesJoined
  pub entering : EntersJoined
  pub jumps : (code : Region) (dest : Dest → ℕ) → IsCode code → JumpsLead code dest

module _ (laws : Exchanging) (exe : Exe) (original : IsOriginal exe) (edges : List Edge) (room : length (code_of exe edges) ≤ MAX_CODE) where
  abbrev code : Region
  code = (coded_of exe edges).code

  abbrev plan : Plan
  plan = plan_of exe edges (coded_of exe edges)

  meet : HomesMeet register_homes plan
  meet = let q = ap length (same_bytes exe edges) in record { are = laws.valid.homes; home = λ v l. refl; here = record { below = omega (arith, q, room); runs = refl } }

  linked_stand : (at : ℕ) (is : List Item) → IsLinked code (goes_with itself exe edges) at is → Stands (with_labels (goes_with itself exe edges) at is) code at is (at + size_of_items is)
  linked_stand at is k = laws.stand code (goes_with itself exe edges) at is k.front k.behind k.bytes k.place k.valid k.distinct

  address_small : (y : ℕ) → address_of exe edges y < 2 ^ 32
  address_small y = let bound = low laws.decodes.lengths exe edges itself code (begins_built exe edges) y in let long = ap length (same_bytes exe edges) in omega (arith, bound, long, room)

  -- ---- a native instruction

  module _ (x : ℕ) (start : is_start_of exe edges x ≡ true) (native : is_island_end (block_of exe x).end ≡ true) where
    abbrev at : ℕ
    at = address_of exe edges x

    abbrev items : List Item
    items = island_items register_homes (own_of exe x) 0 (next_dest exe edges x)

    abbrev dest : Dest → ℕ
    dest = with_labels (goes_with itself exe edges) at items

    native_stands : Stands dest code at items (at + size_of_items items)
    native_stands =
        let e = native_items exe edges x native in
        let v = laws.valid.island register_homes laws.valid.homes (own_of exe x) 0 (next_dest exe edges x) in
        let d = laws.valid.labels register_homes (own_of exe x) 0 (next_dest exe edges x) in
        let k = stands laws.decodes.lengths exe edges itself code (begins_built exe edges) x start (subst Rattle.ia_encode.specs.Items.AreValid (sym e) v) (subst Rattle.ia_encode.specs.Items.AreDistinct (sym e) d) in
        linked_stand at items (subst (IsLinked code (goes_with itself exe edges) at) e k)

    opens : (t : State) (a : Cells) (cs : List ℕ) → Sees code t a → t.eip ≡ at → AreBits (at_home plan a) → Leads (Opens plan x a) 31 t cs
    opens t a cs s e bits = laws.opening register_homes plan dest meet x 0 (at + size_of_items items) (own_of exe x) (next_dest exe edges x) t a cs native_stands refl s e bits

    closes : (t : State) (outer : List Region) (cs : List ℕ) → knows_of exe edges x (past plan x) ≡ true → Capturable plan outer t → t.eip ≡ wrap (plan.native x + plan.len x) → Leads (Captured plan (past plan x) outer t) 17 t cs
    closes t outer cs k c e =
        let y : past plan x ≡ next_of exe x = known_behind exe edges x (past plan x) native k in
        let k2 : is_among (known_of exe (counting exe edges) x) (next_of exe x) ≡ true = subst (λ z. is_among (known_of exe (counting exe edges) x) z ≡ true) y k in
        let live : live_at (key_at exe edges x).exits (next_of exe x) ≡ Some (live_of exe edges (next_of exe x)) = live_there (live_of exe edges) (known_of exe (counting exe edges) x) (next_of exe x) k2 in
        let to : next_dest exe edges x ≡ dests.Block (next_of exe x) = ap (dest_of (next_of exe x)) live in
        let there : dest (next_dest exe edges x) ≡ plan.address (past plan x) = ap dest to ∙ ap (address_of exe edges) (sym y) in
        let inside = native_inside laws.decodes exe edges x start native in
        let long = own_long laws.decodes exe edges x start native in
        let eip : t.eip ≡ own_start register_homes 0 at + length (own_of exe x) = omega (arith, e, inside, long, room) in
        laws.closing register_homes plan dest meet 0 at (at + size_of_items items) (past plan x) (own_of exe x) (next_dest exe edges x) t outer cs native_stands there (address_small (past plan x)) c eip

  -- ---- the entry

  entry_small : exe.entry < 2 ^ 32
  entry_small = entry_bound 0x08000000 exe.entry exe.segments original.segments original.entry

  entry_is : (b : Bool) → is_start_of exe edges exe.entry ≡ b → entry_of exe edges ≡ entry_items exe.entry b
  entry_is b h = ap (entry_items exe.entry) (known exe edges exe.entry ∙ h)

  entry_there : (b : Bool) → is_start_of exe edges exe.entry ≡ b → Stands (with_labels (goes_with itself exe edges) CODE_START (entry_items exe.entry b)) code CODE_START (entry_items exe.entry b) (CODE_START + size_of_items (entry_items exe.entry b))
  entry_there b h = linked_stand CODE_START (entry_items exe.entry b) (subst (IsLinked code (goes_with itself exe edges) CODE_START) (entry_is b h) (entry_stands laws.valid exe edges itself code (begins_built exe edges)))

  enters : (t : State) (outer : List Region) (cs : List ℕ) → is_start_of exe edges exe.entry ≡ true → Capturable plan outer t → t.eip ≡ CODE_START → Leads (Captured plan exe.entry outer t) 17 t cs
  enters t outer cs h c e =
      let is = entry_items exe.entry true in
      let dest = with_labels (goes_with itself exe edges) CODE_START is in
      let to = CODE_START + size_of_items is in
      laws.entering register_homes plan dest meet to exe.entry (dests.Block exe.entry) t outer cs (subst (λ y. Stands dest code y is to) (sym e) (entry_there true h)) refl (address_small exe.entry) c

  passes : (t : State) (outer : List Region) (cs : List ℕ) → is_start_of exe edges exe.entry ≡ false → Capturable plan outer t → t.eip ≡ CODE_START → Leads (λ u. u ≡ record t { eip = exe.entry }) 17 t cs
  passes t outer cs h c e =
      let dest = with_labels (goes_with itself exe edges) CODE_START (entry_items exe.entry false) in
      let stand = entry_there false h in
      let l = (laws.jumps code dest meet.here).always t (first t c.own outer) (dests.Original exe.entry) cs (sees plan outer t c) entry_small (subst (λ y. Rattle.ia_encode.specs.Items.Reads code y (Rattle.ia_encode.specs.Items.jump_inst None (Rattle.ia_encode.specs.Items.distance (y + 5) (dest (dests.Original exe.entry)))) 5) (sym e) stand.0) in
      leads_within (observed t) (λ u. u ≡ record t { eip = exe.entry }) (λ u. u ≡ record t { eip = exe.entry }) 1 17 t cs refl (λ u k. ap observed k) (λ u k. k) (omega arith) (omega arith) l

  and_inv : (a b : Bool) → (a && b) ≡ true → (a ≡ true) × (b ≡ true)
  and_inv true true h = (refl, refl)
  and_inv true false h = cc
  and_inv false b h = cc

  pub exchanges : Exchanges exe plan 31 17 17
  exchanges = record {
    opens = λ x t a cs i s e bits. let q = and_inv (is_start_of exe edges x) (is_island_end (block_of exe x).end) i in opens x q.0 q.1 t a cs s e bits;
    closes = λ x t outer cs i k c e. let q = and_inv (is_start_of exe edges x) (is_island_end (block_of exe x).end) i in closes x q.0 q.1 t outer cs k c e;
    enters = λ t outer cs h c e. enters t outer cs h c e;
    passes = λ t outer cs h c e. passes t outer cs h c e;
  }

pub states_exchanged : Exchanging → StatesExchanged
states_exchanged laws exe edges original room = exchanges laws exe original edges room
