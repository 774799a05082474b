-- The messages of the NBD protocol in bytes: what a client sends, and what it is sent. Numbers have their highest byte first.
-- (After the NBD protocol, fixed newstyle, with simple replies.)
use Rattle.std.specs.Prelude.{◌≡◌, ℕ, ◌<◌, ◌^◌, ◌==◌, if◌then◌else◌, Bool, List, [], ◌∷◌, ◌++◌, length, codes}
use Rattle.byteorder.specs.Endian.{big_bytes}
use Rattle.model_nbd.specs.declared.Header.{Header}

-- What a client is greeted with: two signatures, and the flags FIXED_NEWSTYLE and NO_ZEROES.
abbrev pub greeting : List ℕ
greeting = codes "NBDMAGICIHAVEOPT" ++ big_bytes 2 3

-- The client's flags, which follow the greeting: FIXED_NEWSTYLE, and NO_ZEROES if it does not want the padding of EXPORT_NAME.
abbrev pub client_flags : (zeros : Bool) → List ℕ
client_flags zeros = big_bytes 4 (if zeros then 1 else 3)

-- an option that a client sends in the handshake: its number, and its data
pub record OptionRequest : Type 0 where
  pub number : ℕ
  pub payload : List ℕ

-- the number and the length of the data have four bytes
pub record IsOptionRequest (option : OptionRequest) : Type 0 where
  pub number_fits : option.number < 2 ^ 32
  pub length_fits : length option.payload < 2 ^ 32

-- the 16 bytes that begin an option: the signature, its number, and the length of its data
abbrev pub option_head_bytes : (number length : ℕ) → List ℕ
option_head_bytes number length = codes "IHAVEOPT" ++ big_bytes 4 number ++ big_bytes 4 length

-- the bytes of an option
abbrev pub option_bytes : OptionRequest → List ℕ
option_bytes option = option_head_bytes option.number (length option.payload) ++ option.payload

-- a reply to an option: its number, the type of the reply, and data
abbrev pub option_reply : (number kind : ℕ) → List ℕ → List ℕ
option_reply number kind payload =
    big_bytes 8 0x3e889045565a9 ++ big_bytes 4 number ++ big_bytes 4 kind ++ big_bytes 4 (length payload) ++ payload

-- the 28 bytes of the header of a request
abbrev pub header_bytes : Header → List ℕ
header_bytes header =
    big_bytes 4 0x25609513 ++ big_bytes 2 header.flags ++ big_bytes 2 header.kind ++ big_bytes 8 header.cookie
    ++ big_bytes 8 header.offset ++ big_bytes 4 header.len

-- each field has its bytes
pub record IsHeader (header : Header) : Type 0 where
  pub flags_fit : header.flags < 2 ^ 16
  pub kind_fits : header.kind < 2 ^ 16
  pub cookie_fits : header.cookie < 2 ^ 64
  pub offset_fits : header.offset < 2 ^ 64
  pub len_fits : header.len < 2 ^ 32

-- how many bytes of data follow the header: those of a write, and none of any other request
abbrev pub data_after : Header → ℕ
data_after header = if header.kind == 1 then header.len else 0

-- a request: its header, and its data
pub record Request : Type 0 where
  pub header : Header
  pub payload : List ℕ

-- the header has its bytes, and the data are as long as it says
pub record IsRequest (request : Request) : Type 0 where
  pub fields : IsHeader request.header
  pub data_are : length request.payload ≡ data_after request.header

-- the bytes of a request
abbrev pub request_bytes : Request → List ℕ
request_bytes request = header_bytes request.header ++ request.payload

-- the bytes of a simple reply: the error, 0 where there is none, the request's cookie, and what a read gave
abbrev pub reply_bytes : (error cookie : ℕ) → List ℕ → List ℕ
reply_bytes error cookie payload = big_bytes 4 0x67446698 ++ big_bytes 4 error ++ big_bytes 8 cookie ++ payload

-- The bytes are no whole request: they do not begin with a header, or fewer follow than its data have.
abbrev pub IsPartial : List ℕ → Type 0
IsPartial bytes = (header : Header) (more : List ℕ) → IsHeader header → bytes ≡ header_bytes header ++ more
    → length more < data_after header

-- the bytes of requests, one after another
abbrev pub requests_bytes : List Request → List ℕ
requests_bytes [] = []
requests_bytes (request ∷ rest) = request_bytes request ++ requests_bytes rest

-- each of these is a request
abbrev pub AreRequests : List Request → Type 0
AreRequests [] = Unit {0}
AreRequests (request ∷ rest) = IsRequest request × AreRequests rest

-- The stream is these requests, and then what begins no further one.
pub record Splits (stream : List ℕ) (requests : List Request) (rest : List ℕ) : Type 0 where
  pub each : AreRequests requests
  pub whole : stream ≡ requests_bytes requests ++ rest
  pub partial : IsPartial rest
