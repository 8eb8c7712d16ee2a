-- What a line says, from the answer of the code, and what `read` promises from what is known at its ways out.
use Prim.Native.Nat.{ℕ, ◌*◌, ◌≤◌}
use mathlib.Core.Path.{◌≡◌, refl, subst}
use mathlib.Core.List.{List}
use native.Mathlib.Omega.{arith}
use lib.ListN.{length}
use Rattle.trace.specs.Inner.Kinds.{number_of_kind}
use Rattle.trace.specs.declared.kind.RecordKind.{RecordKind}
use Rattle.lines.specs.Said as L
use Rattle.lines.specs.declared.Wrong.{Wrong}
use Rattle.std.specs.Prelude.{Option, Some, None, Result, Ok, Err}
use Rattle.std.specs.Result.{IsErr}
use Rattle.lines.specs.Inner.Read.{ItemRead, Says, SaidRead}
use Rattle.writing.specs.Rows.{Rows, row_count}
use Rattle.lists.proofs.Tests.{test-clash}
use Rattle.reading.specs.Inner.Walk.{Walked, ItemsRead}
use Rattle.reading.proofs.Held.{same_count}
use Rattle.reading.proofs.Walk.{walked_end}

-- ---- a line
module _ {said : L.Said} {r : Result (Option RecordKind) Wrong} {values : List ℕ} (read : SaidRead said r values) where
  pub told-skipped : r ≡ Ok None → said ≡ L.skipped
  told-skipped e = subst (λ (s : Result (Option RecordKind) Wrong). Says said s values) e read.told

  pub told-wrong : {w : Wrong} → r ≡ Err w → said ≡ L.wrong w.reason w.place
  told-wrong e = subst (λ (s : Result (Option RecordKind) Wrong). Says said s values) e read.told

  pub told-err : IsErr r → (w : Wrong) × (said ≡ L.wrong w.reason w.place)
  told-err err = go r err read.told
    where
      go : (r : Result (Option RecordKind) Wrong) → IsErr r → Says said r values → (w : Wrong) × (said ≡ L.wrong w.reason w.place)
      go (Ok o) err told = test-clash err refl
      go (Err w) err told = (w, told)

  pub told-item : {kind : RecordKind} → r ≡ Ok (Some kind) → ItemRead said (number_of_kind kind) values
  told-item e = subst (λ (s : Result (Option RecordKind) Wrong). Says said s values) e read.told

-- ---- the end of the text
rows-room : (r : Rows) (n : ℕ) → n ≤ row_count r → (2 * n ≤ length r.heads) × (10 * n ≤ length r.bytes) × (8 * n ≤ length r.words)
unfolding row_count
rows-room r n h = (omega arith, omega arith, omega arith)

pub items-read : {text : List ℕ} {before : Rows} {passed : ℕ} {rest : List ℕ} {n : ℕ} {r : Rows} → Walked text before passed rest n r → length rest ≡ 0 →
    ItemsRead text before n r
items-read {before = before} {n = n} {r = r} w h =
    let few : n ≤ row_count r = omega (arith, w.kept.many, same_count before r w.kept.sizes) in
    record {
      xs = w.xs;
      says_is = walked_end w h;
      many = w.kept.many;
      hold = w.kept.hold;
      heads-room = (rows-room r n few).0;
      bytes-room = (rows-room r n few).1;
      words-room = (rows-room r n few).2;
    }
