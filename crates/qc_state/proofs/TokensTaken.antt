-- The NEW_TOKEN frames that a server takes: each holds a token that is made then, and they fit into the room.
use Rattle.std.proofs.Common.{◌≡◌, ℕ, ◌+◌, ◌-◌, ◌<◌, ◌≤◌, List, [], ◌∷◌, ◌++◌, length, length-append, refl, ap, sym, ◌∙◌, subst, Option, Some, arith, append_assoc, append-nil}
use Rattle.rand_core.specs.Stream.{Stream}
use Rattle.std.specs.declared.net.ip_addr.IpAddr.{IpAddr}
use Rattle.std.specs.declared.net.ip_addr.IpAddr.TheVariants as Ip
use Rattle.qc_base.specs.Varint.{varint}
use Rattle.qc_frame.specs.Frame.{FrameValue}
use Rattle.qc_frame.specs.FrameFits.{Fits}
use Rattle.qc_frame.specs.FrameSpelling.{frames_spelling, spelling}
use Rattle.qc_frame.specs.declared.frames.FrameOf.TheVariants as frames
use Rattle.qc_token.specs.Tokens.{token_bytes}
use Rattle.qc_token.specs.TokenSpelling.{ip_len}
use Rattle.qc_token.specs.declared.token.Token.{Token}
use Rattle.qc_token.specs.declared.token.TokenPayload.{TokenPayload}
use Rattle.qc_token.specs.declared.token.TokenPayload.TheVariants.{Validation}
use Rattle.qc_state.specs.Draws.{behind_nonce, nonce}
use Rattle.qc_state.specs.Taking.{AreTokens, TakesTokens}
use Rattle.qc_state.specs.Tokens.{AllIssued, behind_tokens}
use Rattle.qc_state.specs.Waiting.{without, without_all}
use Rattle.qc_state.specs.declared.waiting.SpaceWaiting.{SpaceWaiting}
use Rattle.qc_state.proofs.Issued.{behind_append, issued_append, without_both}
use Rattle.qc_state.proofs.StreamsTaken.{spelled_append}

-- the bytes of a token, by what it says and its nonce
pub token_made : {A : Type 0} (sealed : A → List ℕ → List ℕ → List ℕ) (derived : List ℕ → A) (t : Token) (ip : IpAddr) (issued n : ℕ) (bytes : List ℕ) → t.payload ≡ Validation ip issued → t.nonce ≡ n →
    bytes ≡ token_bytes sealed derived t → bytes ≡ token_bytes sealed derived (record { payload = Validation ip issued; nonce = n })
token_made sealed derived t ip issued n bytes says is_nonce is =
    is ∙ ap (λ (p : TokenPayload). token_bytes sealed derived (record { payload = p; nonce = t.nonce })) says
    ∙ ap (λ (k : ℕ). token_bytes sealed derived (record { payload = Validation ip issued; nonce = k })) is_nonce

-- ---- how many bytes a frame has

count_of : (ip : IpAddr) (n : ℕ) → n ≡ ip_len ip + 41 → length (varint n) ≡ 1
unfolding varint
count_of (Ip.V4 ip) n is = ap (λ (m : ℕ). length (varint m)) is
count_of (Ip.V6 ip) n is = ap (λ (m : ℕ). length (varint m)) is

type_len : length (varint 0x07) ≡ 1
unfolding varint
type_len = refl

token_size : (ip : IpAddr) (token : List ℕ) → length token ≡ ip_len ip + 41 → length (spelling (frames.NewToken token)) ≡ ip_len ip + 43
unfolding spelling
token_size ip token is = let count : length (varint (length token)) ≡ 1 = count_of ip (length token) is in simp length-append (omega (arith, type_len, count, is))

token_fits : (ip : IpAddr) (token : List ℕ) → length token ≡ ip_len ip + 41 → Fits (frames.NewToken token)
unfolding Fits
token_fits (Ip.V4 ip) token is = omega (arith, is)
token_fits (Ip.V6 ip) token is = omega (arith, is)

-- ---- one behind the other

are_both : (fs gs : List FrameValue) → AreTokens fs → AreTokens gs → AreTokens (fs ++ gs)
are_both [] gs h k = k
are_both (frames.NewToken token ∷ fs) gs h k = (h.0, are_both fs gs h.1 k)
are_both (_ ∷ fs) gs h k = absurd h

-- none is taken
pub takes_no_token : (issuer : Option (IpAddr → ℕ → List ℕ)) (ip : IpAddr) (room : ℕ) (w : SpaceWaiting) (words : Stream) (fs : List FrameValue) → TakesTokens issuer ip room w w words words fs fs room
unfolding AllIssued behind_tokens without_all
takes_no_token issuer ip room w words fs = record { own = []; are = tt; issued = tt; rest = refl; drawn = refl; list = sym (append-nil fs); fits = omega arith }

-- one more is taken
pub token_taken : (i : IpAddr → ℕ → List ℕ) (ip : IpAddr) (room left size : ℕ) (w w1 w2 : SpaceWaiting) (words words1 words2 : Stream) (fs gs hs : List FrameValue) (token : List ℕ) (f : FrameValue) →
    TakesTokens (Some i) ip room w w1 words words1 fs gs left → 0 < w1.tokens → token ≡ i ip (nonce words1) → length token ≡ ip_len ip + 41 → words2 ≡ behind_nonce words1 →
    w2 ≡ record w1 { tokens = w1.tokens - 1 } → f ≡ frames.NewToken token → hs ≡ gs ++ f ∷ [] → size ≡ ip_len ip + 43 → size ≤ left → TakesTokens (Some i) ip room w w2 words words2 fs hs (left - size)
unfolding AllIssued behind_tokens without_all without
token_taken i ip room left size w w1 w2 words words1 words2 fs gs hs token f before waits is is_len leads rest same list is_size enough =
    let g : FrameValue = frames.NewToken token in
    let whole : length (frames_spelling (g ∷ [])) ≡ size = ap length (append-nil (spelling g)) ∙ token_size ip token is_len ∙ sym is_size in
    let made : AllIssued (Some i) ip (g ∷ []) (without_all w before.own) (behind_tokens before.own words) =
    subst (λ (x : SpaceWaiting). AllIssued (Some i) ip (g ∷ []) x (behind_tokens before.own words)) before.rest
    (subst (λ (x : Stream). AllIssued (Some i) ip (g ∷ []) w1 x) before.drawn ((waits, is), tt)) in
    record {
      own = before.own ++ g ∷ [];
      are = are_both before.own (g ∷ []) before.are (token_fits ip token is_len, tt);
      issued = issued_append (Some i) ip before.own (g ∷ []) w words before.issued made;
      rest = rest ∙ ap (λ (x : SpaceWaiting). without x g) before.rest ∙ sym (without_both w before.own (g ∷ []));
      drawn = leads ∙ ap behind_nonce before.drawn ∙ sym (behind_append before.own (g ∷ []) words);
      list = list ∙ ap (λ (x : FrameValue). gs ++ x ∷ []) same ∙ ap (λ (x : List FrameValue). x ++ g ∷ []) before.list ∙ append_assoc fs before.own (g ∷ []);
      fits = omega (arith, spelled_append before.own (g ∷ []), whole, before.fits, enough);
    }
