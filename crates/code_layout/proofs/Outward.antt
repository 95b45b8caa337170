-- What is kept of a layout tells where its fragments stand, and where its jumps leave it.
use Rattle.std.proofs.Common.{◌≡◌, ℕ, ◌+◌, Bool, true, false, List, [], ◌∷◌, ◌++◌, length, map, not, refl, sym, ap, ◌∙◌, arith}
use Rattle.std.specs.Prelude.{filter, flat_map}
use Rattle.std.proofs.lemmas.List.{map-append}
use Rattle.std.proofs.lemmas.List.Elements.{filter-append}
use Rattle.block_make.specs.declared.fragment.Fix.{Fix}
use Rattle.code_layout.specs.declared.place.TheConstants.{CODE_START}
use Rattle.code_layout.specs.declared.rows.Row.{Row}
use Rattle.code_layout.specs.Layout.{Added, LayoutView, entry_code, added_places, layout_places, fixes_out, layout_outs}
use Rattle.code_layout.specs.Rows.{forth, fixes_in, rows_in, row_places, IsKept}

-- ---- jumps

pub outs_append : (fs gs : List Fix) → fixes_out (fs ++ gs) ≡ fixes_out fs ++ fixes_out gs
outs_append fs gs =
    ap (map (λ (f : Fix). f.target)) (filter-append (λ (f : Fix). not f.known) fs gs)
    ∙ map-append (λ (f : Fix). f.target) (filter (λ (f : Fix). not f.known) fs) (filter (λ (f : Fix). not f.known) gs)

outs_forth : (at : ℕ) (fs : List Fix) → fixes_out (map (forth at) fs) ≡ fixes_out fs
outs_forth at [] = refl
outs_forth at (f ∷ fs) = by f.known refl (outs_forth at fs)
  where
    by : (b : Bool) → f.known ≡ b → fixes_out (map (forth at) fs) ≡ fixes_out fs → fixes_out (map (forth at) (f ∷ fs)) ≡ fixes_out (f ∷ fs)
    by true e h = rw e h
    by false e h = rw e (ap (λ ys. f.target ∷ ys) h)

outs_in : (at : ℕ) (added : List Added) → fixes_out (fixes_in at added) ≡ flat_map (λ (a : Added). fixes_out a.code.fixes) added
outs_in at [] = refl
outs_in at (a ∷ more) =
    outs_append (map (forth at) a.code.fixes) (fixes_in (at + length a.code.bytes) more)
    ∙ ap (λ ys. ys ++ fixes_out (fixes_in (at + length a.code.bytes) more)) (outs_forth at a.code.fixes)
    ∙ ap (λ ys. fixes_out a.code.fixes ++ ys) (outs_in (at + length a.code.bytes) more)

-- ---- places

places_in_rows : (at from : ℕ) (added : List Added) → row_places (rows_in at from added) ≡ added_places (CODE_START + at) added
places_in_rows at from [] = refl
places_in_rows at from (a ∷ more) =
    let next : CODE_START + (at + length a.code.bytes) ≡ CODE_START + at + length a.code.bytes = omega arith in
    ap (λ ps. (a.start, CODE_START + at) ∷ ps) (places_in_rows (at + length a.code.bytes) (from + length a.code.fixes) more ∙ ap (λ n. added_places n more) next)

module _ (v : LayoutView) (code : List ℕ) (fixes : List Fix) (rows : List Row) (k : IsKept v code fixes rows) where
  pub kept_outs : fixes_out fixes ≡ layout_outs v
  kept_outs =
      ap fixes_out k.fixes_are
      ∙ outs_append (entry_code v).fixes (fixes_in (length (entry_code v).bytes) v.added)
      ∙ ap (λ ys. fixes_out (entry_code v).fixes ++ ys) (outs_in (length (entry_code v).bytes) v.added)

  pub kept_places : row_places rows ≡ layout_places v
  kept_places = ap row_places k.rows_are ∙ places_in_rows (length (entry_code v).bytes) (length (entry_code v).fixes) v.added

pub firsts : (rows : List Row) → map (λ (p : ℕ × ℕ). p.0) (row_places rows) ≡ map (λ (r : Row). r.start) rows
firsts [] = refl
firsts (r ∷ rows) = ap (λ ys. r.start ∷ ys) (firsts rows)
