-- A session's span in the index, as a note.
use Rattle.span_index.specs.declared.owned.Owned.{Owned}
use Rattle.span_index.specs.declared.numbered.Numbered.{Numbered}
use Rattle.span_index.specs.SpanWords.{owned_of}
use Rattle.block_holders.specs.declared.noted.Noted.{Noted}

-- the owner is the session
abbrev pub noted_of : Owned → Noted
noted_of x = record { session = x.owner; span = x.span }

-- of a numbered one
abbrev pub noted_at : Numbered → Noted
noted_at x = noted_of (owned_of x)
