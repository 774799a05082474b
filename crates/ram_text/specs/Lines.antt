-- What is left of a script, and what the next line of it is: for the reader of lines, and for the run that answers them.
use Rattle.std.specs.Prelude.{◌≡◌, ◌≢◌, ℕ, ◌+◌, ◌-◌, ◌<◌, ◌≤◌, ◌⊎◌, Option, None, Some, is_some, IfSome, List, [], ◌∷◌, ◌++◌, length, take, slice_index, All}
use Rattle.std.specs.Io.KnownBytes.{Consumes, IsAtEnd, prepend_known}
use Rattle.model_counts.specs.Counts.{Rose}
use Rattle.ram_outside.specs.Conversation.{Asked}
use Rattle.ram_outside.specs.declared.conversation.Conversation.{Ghosts as Conversations}
use Rattle.ram_text.specs.declared.lines.TheConstants.{LINE_LIMIT, SCRIPT_LIMIT}
use Rattle.ram_text.specs.declared.lines.NextLine.{NextLine}
use Rattle.ram_text.specs.declared.lines.NextLine.TheVariants.{Line, End, LineTooLong, ScriptTooLong, Failed}

-- the byte that ends a line (ASCII)
abbrev pub line_feed : ℕ
line_feed = 10

-- no byte is a line feed (this project's own)
abbrev pub HasNoFeed : List ℕ → Type 0
HasNoFeed bytes = All (λ byte. byte ≢ line_feed) bytes

-- the first line feed of the bytes is at this offset (this project's own)
pub record FeedAt (bytes : List ℕ) (offset : ℕ) : Type 0 where
  pub inside : offset < length bytes
  pub feed : slice_index bytes offset ≡ line_feed
  pub first : HasNoFeed (take offset bytes)

-- where the first line feed of the bytes is, if there is one (this project's own)
abbrev pub IsFirstFeed : List ℕ → Option ℕ → Type 0
IsFirstFeed bytes None = HasNoFeed bytes
IsFirstFeed bytes (Some offset) = FeedAt bytes offset

-- What a reader of lines holds: the line that it found last, without its line feed; the bytes that came from the
-- source and are not taken yet; and how many bytes of the script its lines so far took. (This project's own.)
pub record Reading : Type 0 where
  pub line : List ℕ
  pub buffered : List ℕ
  pub taken : ℕ

-- The buffered bytes begin with a line and its line feed, within both limits. (This project's own.)
pub record HoldsLine (reading : Reading) : Type 0 where
  pub offset : ℕ
  pub feed : FeedAt reading.buffered offset
  pub short : offset ≤ LINE_LIMIT
  pub within : reading.taken + offset < SCRIPT_LIMIT

-- the line and its line feed went, and what is left now came after them (this project's own)
pub record EndsByFeed (left left' : Option (List ℕ)) (taken taken' : ℕ) (line : List ℕ) : Type 0 where
  pub went : Consumes left left' (line ++ line_feed ∷ [])
  pub grew : taken' ≡ taken + length line + 1

-- the line went, which is not empty, and nothing is left now (this project's own)
pub record EndsByScript (left left' : Option (List ℕ)) (taken taken' : ℕ) (line : List ℕ) : Type 0 where
  pub some : 0 < length line
  pub went : Consumes left left' line
  pub ended : IsAtEnd left'
  pub grew : taken' ≡ taken + length line

-- the next line came, within both limits; it ends with a line feed or with the script (this project's own)
pub record GivesLine (left left' : Option (List ℕ)) (taken taken' : ℕ) (line : List ℕ) (faults faults' : ℕ) : Type 0 where
  pub ends : EndsByFeed left left' taken taken' line ⊎ EndsByScript left left' taken taken' line
  pub one : HasNoFeed line
  pub short : length line ≤ LINE_LIMIT
  pub within : taken' ≤ SCRIPT_LIMIT
  pub known : is_some left' ≡ is_some left
  pub count : faults' ≡ faults

-- nothing went, and there is no line (this project's own)
pub record NothingWent (left left' : Option (List ℕ)) (taken taken' : ℕ) (line : List ℕ) : Type 0 where
  pub same : left' ≡ left
  pub stood : taken' ≡ taken
  pub none : line ≡ []

-- more than a line's limit of bytes come without a line feed, and the script's limit is not passed by then
-- (this project's own)
pub record LineIsTooLong (left : Option (List ℕ)) (taken : ℕ) : Type 0 where
  pub bytes : IfSome left (λ held. (LINE_LIMIT < length held) × HasNoFeed (take (LINE_LIMIT + 1) held))
  pub first : taken + LINE_LIMIT < SCRIPT_LIMIT

-- more bytes are left than the script's limit allows, and those that it allows have no line feed and are no longer
-- than a line may be (this project's own)
pub record ScriptIsTooLong (left : Option (List ℕ)) (taken : ℕ) : Type 0 where
  pub bytes : IfSome left (λ held. (SCRIPT_LIMIT - taken < length held) × HasNoFeed (take (SCRIPT_LIMIT - taken) held))
  pub first : SCRIPT_LIMIT ≤ taken + LINE_LIMIT

-- nothing went, what is buffered has no line feed in it, and the source failed and counted it: so of what the source
-- gave no whole line is left (this project's own)
pub record LineFails (left left' : Option (List ℕ)) (taken taken' : ℕ) (line buffered' : List ℕ)
    (faults faults' : ℕ) : Type 0 where
  pub nothing : NothingWent left left' taken taken' line
  pub clear : HasNoFeed buffered'
  pub count : Rose faults faults'

-- More was asked for while this was written, of a script of which this was left, what had come and was not taken before the rest of it: and
-- what had come has no line feed, so it is no whole line. (This project's own.)
pub record IsOpenAsk (left written : Option (List ℕ)) (ask : Asked) : Type 0 where
  pub written_is : ask.written ≡ written
  pub came : List ℕ
  pub clear : HasNoFeed came
  pub rest_is : prepend_known came ask.left ≡ left

module _ {T K : Type 0} (talks : Conversations T K) where
  -- what is left of the script: what is buffered, and then what is left to come (this project's own)
  abbrev pub left_of : Reading → T → Option (List ℕ)
  left_of reading talk = prepend_known reading.buffered (talks.left talk)

  -- What the search for the next line may do, by its answer: the reader and the conversation before and after. (This
  -- project's own.)
  abbrev pub NextLineRule : Reading → Reading → T → T → NextLine → Type 0
  NextLineRule r r' s s' Line =
      GivesLine (left_of r s) (left_of r' s') r.taken r'.taken r'.line (talks.faults s) (talks.faults s')
  NextLineRule r r' s s' End =
      NothingWent (left_of r s) (left_of r' s') r.taken r'.taken r'.line × IsAtEnd (left_of r s)
      × (talks.faults s' ≡ talks.faults s)
  NextLineRule r r' s s' LineTooLong =
      NothingWent (left_of r s) (left_of r' s') r.taken r'.taken r'.line × LineIsTooLong (left_of r s) r.taken
      × (talks.faults s' ≡ talks.faults s)
  NextLineRule r r' s s' ScriptTooLong =
      NothingWent (left_of r s) (left_of r' s') r.taken r'.taken r'.line × ScriptIsTooLong (left_of r s) r.taken
      × (talks.faults s' ≡ talks.faults s)
  NextLineRule r r' s s' Failed =
      LineFails (left_of r s) (left_of r' s') r.taken r'.taken r'.line r'.buffered (talks.faults s) (talks.faults s')
