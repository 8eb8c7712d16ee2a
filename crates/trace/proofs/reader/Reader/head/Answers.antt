-- `head` meets its contract: each way out is what stands at the offset.
use Prim.Native.Nat.{ℕ, ◌+◌}
use mathlib.Core.Path.{◌≡◌, refl, sym, ap, ◌∙◌}
use mathlib.Core.Bool.{false}
use lib.ListN.{take, drop}
use Rattle.std.proofs.Common.{rules, Ok, Err, Some}
use native.Mathlib.Omega.{arith}
use borrow.Author.Tests.{lt-ltb, eq-eqb, ne_eqb}
use Rattle.trace.specs.Bytes.{number}
use Rattle.trace.specs.Table.{is_row, kind_row, body_size}
use Rattle.trace.specs.Inner.Kinds.{number_of_kind}
use Rattle.trace.specs.Inner.Told.{HeadRead}
use Rattle.trace.specs.declared.Fault.TheVariants.{Kind}
use Rattle.trace.specs.declared.kind.RecordKind.{RecordKind}
use Rattle.trace.proofs.Records.{Header, split_at, unknown-kind, length-wrong, body-cut, body-whole}
use Rattle.trace.proofs.reader.Reader.head.Goals as goal

pub returns-then-left-eq0 : goal.returns-then-left-eq0
returns-then-left-eq0 c = record { says = simp (split_at, eq-eqb _ _ c.if-left-eq0.true); fits = tt }

pub returns-then-left-lt-HEADER_SIZE : goal.returns-then-left-lt-HEADER_SIZE
returns-then-left-lt-HEADER_SIZE c =
    record { says = simp (split_at, ne_eqb _ _ c.if-left-eq0.false, lt-ltb _ _ c.if-left-lt-HEADER_SIZE.true); fits = tt }

pub returns-in_err-kind : goal.returns-in_err-kind
returns-in_err-kind c = let d = c.args.self in
    let header : Header d.src.now d.at (number 2 d.src.now d.at) c.number2.result = record {
      some = c.if-left-lt-HEADER_SIZE.false;
      len_is = refl;
      kind-is = c.number2.ensures.0;
    } in
    let told : (c.in_err-kind.field-0.0 ≡ Kind) × (is_row (kind_row c.number2.result) ≡ false) = c.in_err-kind.ensures in
    let read : HeadRead d.src.now d.at (Err c.in_err-kind.field-0.0) = record { says = sym (rw told.0 (unknown-kind header told.1)); fits = tt } in
    search rules

pub returns-then-number2-size : goal.returns-then-number2-size
returns-then-number2-size c = let d = c.args.self in
    let header : Header d.src.now d.at c.number2-2.result (number_of_kind c.in_ok-kind.kind) = record {
      some = c.if-left-lt-HEADER_SIZE.false;
      len_is = c.number2-2.ensures.0;
      kind-is = c.in_ok-kind.ensures ∙ c.number2.ensures.0;
    } in
    let long = c.body_size-size.ensures in
    record { says = sym (length-wrong c.in_ok-kind.kind header (λ e. c.if-number2-size.true (e ∙ sym long))); fits = tt }

pub returns-then-left-size : goal.returns-then-left-size
returns-then-left-size c = let d = c.args.self in
    let header : Header d.src.now d.at c.number2-2.result (number_of_kind c.in_ok-kind.kind) = record {
      some = c.if-left-lt-HEADER_SIZE.false;
      len_is = c.number2-2.ensures.0;
      kind-is = c.in_ok-kind.ensures ∙ c.number2.ensures.0;
    } in
    let long = c.if-number2-size.false ∙ c.body_size-size.ensures in
    record { says = sym (body-cut c.in_ok-kind.kind header long (omega arith)); fits = tt }

pub returns : goal.returns
returns c = let d = c.args.self in
    -- of each kind that the number tells
    let read : (kind : RecordKind) → number_of_kind kind ≡ c.number2.result →
    HeadRead d.src.now d.at (Ok (Some (record { kind = kind; body = c.body.result }))) = λ kind told.
    let header : Header d.src.now d.at c.number2-2.result (number_of_kind kind) = record {
      some = c.if-left-lt-HEADER_SIZE.false;
      len_is = c.number2-2.ensures.0;
      kind-is = told ∙ c.number2.ensures.0;
    } in
    let long = c.if-number2-size.false ∙ c.body_size-size.ensures ∙ ap (λ (n : ℕ). body_size (kind_row n)) (c.in_ok-kind.ensures ∙ sym told) in
    let b = body-whole kind header long (omega arith) in
    let is : c.body.result.now ≡ take c.number2-2.result (drop (d.at + 4) d.src.now) = rw c.if-number2-size.false c.body.ensures in
    record { says = rw is (sym b.stands); fits = record { inside = rw is b.inside; bodied = rw is b.bodied } } in
    read _ (grind arith)
