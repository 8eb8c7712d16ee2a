-- The two kinds of queue: where the words and the lengths of each stand, and which part of the view it is.
use Rattle.std.specs.Prelude.{ℕ, List}
use Rattle.view.specs.Inner.View.{View, with_requests, with_replies}
use Rattle.store.specs.Inner.Layout.{at_request_lengths, at_reply_lengths, at_requests, at_replies}

pub data Kind : Type 0 where
  requests : Kind
  replies : Kind

abbrev pub lengths_of : Kind → ℕ
lengths_of requests = at_request_lengths
lengths_of replies = at_reply_lengths

abbrev pub words_of : Kind → ℕ
words_of requests = at_requests
words_of replies = at_replies

-- the lowest level whose queues are words of tags: below it an engine's next request stands alone
abbrev pub lowest : Kind → ℕ
lowest requests = 1
lowest replies = 0

abbrev pub queues_in : Kind → View → ℕ → ℕ → List ℕ
queues_in requests v = v.requests
queues_in replies v = v.replies

abbrev pub with_queue : Kind → View → ℕ → ℕ → List ℕ → View
with_queue requests = with_requests
with_queue replies = with_replies
