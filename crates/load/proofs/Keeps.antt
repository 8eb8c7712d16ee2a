-- After a record that is not refused the memory and the machine say what the items say with it.
use Prim.Native.Nat.{ℕ}
use mathlib.Core.Path.{◌≡◌, refl, ap, sym, ◌∙◌}
use mathlib.Core.Logic.{◌≢◌}
use mathlib.Core.Bool.{true}
use mathlib.Core.List.{List}
use lib.ListN.{length, set, length-set}
use Rattle.event.specs.Event.{Act, event, drain}
use Rattle.view.specs.Inner.View.{View}
use Rattle.trace.specs.Item.{Shape, Word, Request, shape, word, request, act, Items}
use Rattle.trace.specs.Table.{is_row, body_row, item}
use Rattle.trace.specs.Contents.{contents, add, shape_of, words_given, requests_of, start_words}
use Rattle.trace.specs.Refusals.{fault}
use Rattle.trace.specs.Bytes.{number}
use Rattle.trace.specs.Inner.Kinds.{number_of_kind}
use Rattle.trace.specs.Inner.Known.{shape_in, event_in, Same}
use Rattle.trace.specs.declared.kind.RecordKind.{RecordKind}
use Rattle.trace.specs.declared.kind.RecordKind.TheVariants as Kind
use Rattle.trace.specs.declared.progress.Progress.{Progress}
use Rattle.trace.proofs.Contents.{start-words-more}
use Rattle.trace.proofs.Ranges.{shape-first}
use Rattle.trace.proofs.Table.{says-shape, says-event, says-drain}
use Rattle.trace.proofs.Known.{act-same}
use Rattle.load.specs.Inner.Machine.{RequestsHeld}
use Rattle.load.specs.Inner.Loop.{LoadedSoFar, RequestPut, Put}
use Rattle.load.proofs.Machine.{held_none, put-held}

pub loaded-same : {xs ys : Items} {words m : List ℕ} → Same xs ys → LoadedSoFar xs words m → LoadedSoFar ys words m
loaded-same same loaded = record {
  words_are = loaded.words_are ∙ ap start_words same.words_are;
  sized = loaded.sized;
  requests-are = rw (← same.shape_is, ← same.requests-are) loaded.requests-are;
}

-- before a shape that is not refused stands no request
first : (before : Items) (s : Shape) → fault before (shape s) ≡ 0 → {v : View} → RequestsHeld (shape_of before).k (requests_of before) v →
    RequestsHeld s.k (requests_of before) v
unfolding contents
first before s f h = let e = shape-first before s f in rw e (held_none (rw e at h))

-- kind by kind, what the memory and the machine say with it
module _ {p : Progress} {words m : List ℕ} (words_size : length words ≡ 256) where
  pub put-shape : (s : Shape) → Put (shape s) p words m words m
  unfolding contents add
  put-shape s = record {
    words_size = words_size;
    loaded = λ before marks known loaded f.
        record { words_are = loaded.words_are; sized = loaded.sized; requests-are = first before s f loaded.requests-are };
  }

  pub put_word : (w : Word) → Put (word w) p words m (set words w.address w.value) m
  unfolding contents add
  put_word w = record {
    words_size = length-set words w.address w.value ∙ words_size;
    loaded = λ before marks known loaded f. record {
      words_are = rw (← loaded.words_are) at (sym (start-words-more (words_given before) w));
      sized = loaded.sized;
      requests-are = loaded.requests-are;
    };
  }

  pub put-request : (r : Request) (m' : List ℕ) → RequestPut p.facts.k r p.facts.requests m m' → Put (request r) p words m words m'
  unfolding contents add
  put-request r m' put = record {
    words_size = words_size;
    loaded = λ before marks known loaded f. record {
      words_are = loaded.words_are;
      sized = put.becomes.sized;
      requests-are = put-held loaded.requests-are (rw (known.k-is, known.requests-is) at put);
    };
  }

  pub put-act : (a : Act) → Put (act a) p words m words m
  put-act a = record { words_size = words_size; loaded = λ before marks known loaded f. loaded-same (act-same before a) loaded }

  -- a body that is no word and no request says a shape or an act, which leave nothing
  pub put_other : (kind : RecordKind) (b : List ℕ) → kind ≢ Kind.Word → kind ≢ Kind.Request → is_row (body_row (number_of_kind kind) (length b)) ≡ true →
      Put (item (number_of_kind kind) b) p words m words m
  put_other Kind.Shape b w r is = rw (says-shape b refl is).is (put-shape (shape_in b))
  put_other Kind.Word b w r is = absurd (w refl)
  put_other Kind.Request b w r is = absurd (r refl)
  put_other Kind.Event b w r is = rw (says-event b refl is).is (put-act (event (event_in b)))
  put_other Kind.Drain b w r is = rw (says-drain b refl is).is (put-act (drain (number 2 b 0)))
