-- What is known of a service between two messages, and at its end.
use Rattle.std.proofs.Common.{◌≡◌, ℕ, Bool, false, List, [], ◌∷◌, ◌++◌, Option, None, subst}
use Rattle.std.specs.Prelude.{flat_map}
use Rattle.std.specs.Io.KnownBytes.{Appends}
use Rattle.std.proofs.KnownBytes.{Appends-nil, Appends-trans}
use Rattle.std.proofs.lemmas.List.{flat_map_more}
use Rattle.serde_cbor.specs.Acceptable.{max_depth}
use Rattle.serde_cbor.specs.Formats.{Formats, all_formats}
use Rattle.serde_cbor.specs.Gives.{Gave}
use Rattle.serde_cbor.specs.Raw.{Raw}
use Rattle.serde_cbor.specs.Readable.{Context}
use Rattle.serde_cbor.specs.Source.{Lends, reader_refusals, start_of_reader}
use Rattle.serde_cbor.specs.Streamed.{HasStreamed}
use Rattle.serde_cbor.specs.Streams.{Stream, GivesError, GivesItem, GivesNone, begun}
use Rattle.serde_cbor.specs.Takes.{lending}
use Rattle.serde_cbor.specs.Whole.{from_reader_context}
use Rattle.serde_cbor.specs.Write.{AppendsBeginning}
use Rattle.serde_cbor.specs.declared.error.Error.{Error}
use Rattle.serde_cbor.proofs.facts.Streams.{all_streamed, most_streamed, none_streamed, one_streamed}
use Rattle.use_messages.specs.Service.{ServedAll, ServedButOne, ServedUpTo}

-- a reader lends nothing
abbrev lends : Lends
lends = record { whole = false; joined = false }

module _ {M : Type 0} (reads : Context → Raw → M → Type 0) (reply : M → List ℕ) (bytes : List ℕ) where
  abbrev read_as : Raw → M → Type 0
  read_as = reads from_reader_context

  abbrev by : Formats → Raw → M → Type 0
  by f = reads (lending f lends)

  -- Each message that the stream gave has its reply.
  pub record HasServed (s : Stream) (old new : Option (List ℕ)) : Type 0 where
    pub messages : List M
    pub given : HasStreamed read_as bytes messages s
    pub written : Appends old new (flat_map reply messages)

  pub none_served : (remaining old : Option (List ℕ)) → Gave remaining bytes → HasServed (begun (start_of_reader remaining) max_depth all_formats) old old
  none_served remaining old gave = record { messages = []; given = none_streamed reads bytes remaining gave; written = Appends-nil old }

  module _ (s t : Stream) (old new : Option (List ℕ)) (served : HasServed s old new) where
    pub all_served : GivesNone s t → ServedAll read_as reply bytes old new
    all_served none = record {
      messages = served.messages;
      are = all_streamed reads bytes served.messages s t served.given none;
      written = served.written;
    }

    pub broken : (total : Bool) (e : Error) → GivesError reader_refusals by total e s t → ServedUpTo read_as reply bytes old new s.input.offset e
    broken total e given = record {
      messages = served.messages;
      rest = served.given.rest;
      are = served.given.begin;
      place = served.given.place;
      written = served.written;
      broken = most_streamed reads bytes served.messages s t served.given total e given;
    }

    module _ (m : M) (given : GivesItem reader_refusals by m s t) (room : t.input.room ≡ None) (new' : Option (List ℕ)) where
      abbrev more : HasStreamed read_as bytes (served.messages ++ m ∷ []) t
      more = one_streamed reads bytes served.messages s t served.given m given room

      pub one_more : Appends new new' (reply m) → HasServed t old new'
      one_more wrote = record {
        messages = served.messages ++ m ∷ [];
        given = more;
        written = subst (λ (bs : List ℕ). Appends old new' bs) (flat_map_more reply [] served.messages m)
            (Appends-trans old new new' (flat_map reply served.messages) (reply m) served.written wrote);
      }

      pub all_but_one : AppendsBeginning (reply m) new new' → ServedButOne read_as reply bytes old new'
      all_but_one wrote = record {
        messages = served.messages;
        last = m;
        rest = more.rest;
        are = more.begin;
        front = wrote.front;
        missing = wrote.rest;
        whole = wrote.whole;
        written = Appends-trans old new new' (flat_map reply served.messages) wrote.front served.written wrote.written;
      }
