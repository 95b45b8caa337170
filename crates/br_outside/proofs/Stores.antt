-- What a store in memory does, as the trait says it.
use Rattle.std.proofs.Common.{◌≡◌, ◌<◌, ◌^◌, ℕ, List, Some, Bool, true, false, cond, refl, sym, ap, Ok, Err, arith}
use Rattle.std.specs.Str.{bytes_eq}
use Rattle.std.proofs.lemmas.Slice.Eq.{bytes_eq-Decides}
use Rattle.std.proofs.Math.Path.{fun_ext}
use Rattle.br_outside.specs.Files.{Files, put}
use Rattle.br_outside.specs.Failing.{risen, after_call}
use Rattle.br_outside.specs.Outside.{Stored}
use Rattle.br_outside.specs.declared.failing.Failing.{Failing}
use Rattle.br_outside.specs.declared.errors.StoreError.TheVariants as store_errors

kept_at : (files : Files) (name q : List ℕ) (b : Bool) → bytes_eq name q ≡ b → files q ≡ cond b (files name) (files q)
kept_at files name q true h = ap files (sym ((bytes_eq-Decides name q).0 h))
kept_at files name q false h = refl

-- a name that gets what it has
put_same : (name : List ℕ) (files : Files) → files ≡ put name (files name) files
put_same name files = fun_ext (λ q. kept_at files name q (bytes_eq name q) refl)

-- a call that is made to fail leaves all names
pub failed_store : (name bytes : List ℕ) (files : Files) (f g : Failing) → f.faults < 2 ^ 64 → g ≡ after_call f true → Stored name bytes (Err store_errors.Failed) (record { files = Some files; faults = f.faults; calm = false }) (record { files = Some files; faults = g.faults; calm = false })
failed_store name bytes files f g less is =
    let n : g.faults ≡ risen f.faults = ap (λ h. h.faults) is in
    record { calm = refl; later = omega arith; bounded = omega arith; gives = ((files name, ap Some (put_same name files)), omega arith, λ calm. let h : false ≡ true = calm in cc) }

-- a call without memory leaves all names
pub kept_store : (name bytes : List ℕ) (files next : Files) (n : ℕ) (c : Bool) → next ≡ files → n < 2 ^ 64 → Stored name bytes (Err store_errors.Memory) (record { files = Some files; faults = n; calm = c }) (record { files = Some next; faults = n; calm = c })
kept_store name bytes files next n c same less = record { calm = refl; later = omega arith; bounded = less; gives = (ap Some same, refl) }

pub done_store : (name bytes : List ℕ) (files next : Files) (n : ℕ) (c : Bool) → next ≡ put name (Some bytes) files → n < 2 ^ 64 → Stored name bytes (Ok tt) (record { files = Some files; faults = n; calm = c }) (record { files = Some next; faults = n; calm = c })
done_store name bytes files next n c same less = record { calm = refl; later = omega arith; bounded = less; gives = (ap Some same, refl) }
