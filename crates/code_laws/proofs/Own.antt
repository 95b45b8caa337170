-- A native instruction between the exchanges.
use Rattle.std.proofs.Common.{◌≡◌, ℕ, ◌+◌, ◌<◌, ◌≤◌, inl, inr, arith, ◌++◌, map, length, sym, ◌∙◌, subst}
use Rattle.br_word.specs.State.{State}
use Rattle.run_model.specs.Run.{Observation, run}
use Rattle.par_moves.specs.declared.locations.Place.TheVariants.{Slot}
use Rattle.code_laws.specs.Exchange.{Homes, FlagsHeld, Opened, Captured}
use Rattle.ia_encode.specs.declared.item.Item.TheVariants.{Byte}
use Rattle.ia_encode.specs.Items.{BytesRead, Reads}
use Rattle.code_laws.specs.Seen.{Cells, Leads, Quiet}
use Rattle.code_laws.specs.Laws.{own_start, OwnFound, Comes, Between, Exchanged, IslandKeeps}
use Rattle.fall_stubs.specs.Exchange.{opening_items, closing_items}
use Rattle.code_laws.proofs.Runs.{found_is, leads_then, leads_map, run_leads}
use Rattle.code_laws.proofs.Keeps.{stands_parts, exchange_keeps}

-- given the contract of bytes_read
pub own_found : BytesRead → OwnFound
own_found reads code dest homes bytes label at next to i s a here fit some spelled st h e =
    let p = (stands_parts dest code at (opening_items homes label) (map Byte bytes ++ closing_items homes next) to st).1 in
    let r = reads code dest bytes (closing_items homes next) (own_start homes label at) to i fit some spelled p in
    found_is here s a h i (length bytes) (subst (λ x. Reads code x i (length bytes)) (sym e) r)

held_after : (homes : Homes) (a b c : Cells) → FlagsHeld a → Opened homes a b → ((k : ℕ) → 8 ≤ k → c.cell (Slot k) ≡ b.cell (Slot k)) → FlagsHeld c
held_after homes a b c f o same = record { cf = low 8 (omega arith) f.cf; pf = low 9 (omega arith) f.pf; zf = low 10 (omega arith) f.zf; sf = low 11 (omega arith) f.sf; of = low 12 (omega arith) f.of; df = low 13 (omega arith) f.df }
  where
    low : (k : ℕ) → 8 ≤ k → a.cell (Slot k) < 2 → c.cell (Slot k) < 2
    low k l h = subst (λ v. v < 2) (sym (same k l ∙ o.others k l)) h

first_shows : (u v : Observation) (t : State) → Quiet u t → Between u v t
first_shows u v t q = record { shows = inl q.shows; live = q.live; in_code = q.in_code }

then_shows : (u v : Observation) (t : State) → Quiet v t → Between u v t
then_shows u v t q = record { shows = inr q.shows; live = q.live; in_code = q.in_code }

pub island_keeps : IslandKeeps
island_keeps code homes dest s a bytes label next to k cs v here hs h f small st own =
    let keeps = exchange_keeps here homes dest hs in
    let start = own_start homes label s.eip in
    let W = Between a.seen v in
    let Q = Comes code (dest next) (Exchanged code homes (start + length bytes) k v a) in
    leads_then W (Comes code start (Opened homes a)) Q (length homes + (27 + a.cell (Slot 13))) (k + (14 + length homes)) s cs
    (leads_map (Quiet a.seen) W (Comes code start (Opened homes a)) (Comes code start (Opened homes a)) (length homes + (27 + a.cell (Slot 13))) s cs (first_shows a.seen v) (λ t q. q)
    ((keeps s a cs h f).opening bytes label to next st))
    (λ t ds q.
    let o = own t q.cells ds q.sees q.holds q.eip in
    let e = o.ends in
    leads_then W (λ u. u ≡ run k t ds) Q k (14 + length homes) t ds (run_leads W k t ds o.before)
    (λ u es same.
    subst (λ x. Leads W Q (14 + length homes) x es) (sym same)
    (leads_map (Quiet e.cells.seen) W (Comes code (dest next) (Captured homes e.cells)) Q (14 + length homes) (run k t ds) es
    (λ x z. then_shows a.seen v x (record { shows = z.shows ∙ e.shows; live = z.live; in_code = z.in_code }))
    (λ x z. record { cells = z.cells; sees = z.sees; eip = z.eip; holds = record { from = t; began = q.cells; sees = q.sees; opened = q.holds; choices = ds; own = e; captured = z.holds; others = λ j l. z.holds.others j l ∙ e.slots j (omega arith) ∙ q.holds.others j (omega arith) } })
    ((keeps (run k t ds) e.cells es e.sees (held_after homes a q.cells e.cells f q.holds e.slots)).closing bytes label s.eip to next st e.eip small))))
