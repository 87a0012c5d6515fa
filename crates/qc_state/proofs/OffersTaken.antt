-- The frames that the layers below offer and this end takes: those of the streams, about connection ids and DATAGRAMs, one behind the other.
use Rattle.std.proofs.Common.{◌≡◌, ℕ, ◌<◌, ◌≤◌, List, [], ◌∷◌, ◌++◌, refl, ap, sym, ◌∙◌, subst, Bool, true, false, ◌||◌, Option, None, arith, append_assoc, append-nil}
use Rattle.std.specs.Prelude.{Result, Ok, Err, IfOk}
use Rattle.qc_cids.specs.Steps as ids
use Rattle.qc_cids.specs.declared.connection_ids.ConnectionIds.{ConnectionIds}
use Rattle.qc_datagrams.specs.Steps as datagrams
use Rattle.qc_datagrams.specs.declared.datagrams.Datagrams.{Datagrams}
use Rattle.qc_frame.specs.Frame.{FrameValue}
use Rattle.qc_frame.specs.declared.frames.FrameOf.TheVariants as frames
use Rattle.qc_state.specs.Datagrams.{AllOldest, sealed_datagrams}
use Rattle.qc_state.specs.Ids.{AllNext, sealed_cids}
use Rattle.qc_state.specs.Lower.{datagrams_stepped, frames_sealed, ids_stepped, streams_stepped}
use Rattle.qc_state.specs.Offers.{ids_offer, streams_offer, tokens_wait, turn_waits}
use Rattle.qc_state.specs.StreamFrames.{sealed_steps}
use Rattle.qc_state.specs.Taking.{AreDatagrams, AreOfIds, AreOffered, AreOfStreams, AreTokens, TakesDatagrams, TakesIds, TakesOffered, TakesStreams, TakesTokens, is_offered_frame, is_streams_frame}
use Rattle.qc_state.specs.Tokens.{AllIssued, behind_tokens}
use Rattle.qc_state.specs.Waiting.{without, without_all}
use Rattle.qc_state.specs.declared.lower.Lower.{Lower}
use Rattle.qc_state.specs.declared.waiting.SpaceWaiting.{SpaceWaiting}
use Rattle.qc_state.proofs.Issued.{behind_append, undrawn, issued_append, issued_none, tokens_datagrams, tokens_ids, tokens_of, tokens_streams, without_both}
use Rattle.rand_core.specs.Stream.{Stream}
use Rattle.std.specs.declared.net.ip_addr.IpAddr.{IpAddr}
use Rattle.qc_streams.proofs.StepsLaw.{after_append, may_append}
use Rattle.qc_streams.specs.Control.{next_control}
use Rattle.qc_streams.specs.Steps.{AllMay}
use Rattle.qc_turns.specs.Ready.{next_turn}
use Rattle.std.specs.Option.{is_some}
use Rattle.qc_streams.specs.Waits.{Step, after}
use Rattle.qc_streams.specs.declared.state.StreamsState.{StreamsState}
use Rattle.qc_state.proofs.DatagramSteps.{datagrams_append, oldest_append, oldest_none, posts_append}
use Rattle.qc_state.proofs.IdSteps.{cids_append, next_append, next_none}
use Rattle.qc_state.proofs.IdsSettled as settled
use Rattle.qc_state.proofs.SealedSteps.{none_may, sealed_append}
use Rattle.qc_state.proofs.StreamsTaken.{spelled_append}

-- ---- which frames they are

offered_streams : (f : FrameValue) → is_streams_frame f ≡ true → is_offered_frame f ≡ true
offered_streams (frames.Datagram body) h = refl
offered_streams (frames.NewToken token) h = refl
offered_streams (frames.NewConnectionId new) h = refl
offered_streams (frames.RetireConnectionId sequence) h = refl
offered_streams _ h = h

are_streams : (b : Bool) (fs : List FrameValue) → AreOfStreams b fs → AreOffered b fs
are_streams b [] h = tt
are_streams b (f ∷ fs) h = (h.0, offered_streams f h.1, h.2, are_streams b fs h.3)

are_datagrams : (fs : List FrameValue) → AreDatagrams fs → AreOffered true fs
are_datagrams [] h = tt
are_datagrams (frames.Datagram body ∷ fs) h = (refl, refl, h.0, are_datagrams fs h.1)
are_datagrams (_ ∷ fs) h = absurd h

are_ids : (fs : List FrameValue) → AreOfIds fs → AreOffered true fs
are_ids [] h = tt
are_ids (frames.NewConnectionId new ∷ fs) h = (refl, refl, h.0, are_ids fs h.1)
are_ids (frames.RetireConnectionId sequence ∷ fs) h = (refl, refl, h.0, are_ids fs h.1)
are_ids (_ ∷ fs) h = absurd h

are_tokens : (fs : List FrameValue) → AreTokens fs → AreOffered true fs
are_tokens [] h = tt
are_tokens (frames.NewToken token ∷ fs) h = (refl, refl, h.0, are_tokens fs h.1)
are_tokens (_ ∷ fs) h = absurd h

are_offered_both : (b : Bool) (fs gs : List FrameValue) → AreOffered b fs → AreOffered b gs → AreOffered b (fs ++ gs)
are_offered_both b [] gs h k = k
are_offered_both b (f ∷ fs) gs h k = (h.0, h.1, h.2, are_offered_both b fs gs h.3 k)

-- those of one layer are no steps of the others
streams_no_datagrams : (b : Bool) (fs : List FrameValue) → AreOfStreams b fs → sealed_datagrams fs ≡ []
unfolding sealed_datagrams
streams_no_datagrams b [] h = refl
streams_no_datagrams b (frames.Datagram body ∷ fs) h = cc
streams_no_datagrams b (_ ∷ fs) h = streams_no_datagrams b fs h.3

streams_no_cids : (b : Bool) (fs : List FrameValue) → AreOfStreams b fs → sealed_cids fs ≡ []
unfolding sealed_cids
streams_no_cids b [] h = refl
streams_no_cids b (frames.NewConnectionId new ∷ fs) h = cc
streams_no_cids b (frames.RetireConnectionId sequence ∷ fs) h = cc
streams_no_cids b (_ ∷ fs) h = streams_no_cids b fs h.3

datagrams_no_steps : (fs : List FrameValue) → AreDatagrams fs → sealed_steps fs ≡ []
unfolding sealed_steps
datagrams_no_steps [] h = refl
datagrams_no_steps (frames.Datagram body ∷ fs) h = datagrams_no_steps fs h.1
datagrams_no_steps (_ ∷ fs) h = absurd h

datagrams_no_cids : (fs : List FrameValue) → AreDatagrams fs → sealed_cids fs ≡ []
unfolding sealed_cids
datagrams_no_cids [] h = refl
datagrams_no_cids (frames.Datagram body ∷ fs) h = datagrams_no_cids fs h.1
datagrams_no_cids (_ ∷ fs) h = absurd h

ids_no_steps : (fs : List FrameValue) → AreOfIds fs → sealed_steps fs ≡ []
unfolding sealed_steps
ids_no_steps [] h = refl
ids_no_steps (frames.NewConnectionId new ∷ fs) h = ids_no_steps fs h.1
ids_no_steps (frames.RetireConnectionId sequence ∷ fs) h = ids_no_steps fs h.1
ids_no_steps (_ ∷ fs) h = absurd h

ids_no_datagrams : (fs : List FrameValue) → AreOfIds fs → sealed_datagrams fs ≡ []
unfolding sealed_datagrams
ids_no_datagrams [] h = refl
ids_no_datagrams (frames.NewConnectionId new ∷ fs) h = ids_no_datagrams fs h.1
ids_no_datagrams (frames.RetireConnectionId sequence ∷ fs) h = ids_no_datagrams fs h.1
ids_no_datagrams (_ ∷ fs) h = absurd h

tokens_no_steps : (fs : List FrameValue) → AreTokens fs → sealed_steps fs ≡ []
unfolding sealed_steps
tokens_no_steps [] h = refl
tokens_no_steps (frames.NewToken token ∷ fs) h = tokens_no_steps fs h.1
tokens_no_steps (_ ∷ fs) h = absurd h

tokens_no_datagrams : (fs : List FrameValue) → AreTokens fs → sealed_datagrams fs ≡ []
unfolding sealed_datagrams
tokens_no_datagrams [] h = refl
tokens_no_datagrams (frames.NewToken token ∷ fs) h = tokens_no_datagrams fs h.1
tokens_no_datagrams (_ ∷ fs) h = absurd h

tokens_no_cids : (fs : List FrameValue) → AreTokens fs → sealed_cids fs ≡ []
unfolding sealed_cids
tokens_no_cids [] h = refl
tokens_no_cids (frames.NewToken token ∷ fs) h = tokens_no_cids fs h.1
tokens_no_cids (_ ∷ fs) h = absurd h

-- frames of the other layers leave what waits in a space
offered_stays : (b : Bool) (w : SpaceWaiting) (fs : List FrameValue) → AreOffered b fs → tokens_of fs ≡ [] → w ≡ without_all w fs
unfolding without_all without
offered_stays b w [] h none = refl
offered_stays b w (frames.Stream id offset fin body ∷ fs) h none = offered_stays b w fs h.3 none
offered_stays b w (frames.ResetStream id code size ∷ fs) h none = offered_stays b w fs h.3 none
offered_stays b w (frames.StopSending id code ∷ fs) h none = offered_stays b w fs h.3 none
offered_stays b w (frames.MaxData limit ∷ fs) h none = offered_stays b w fs h.3 none
offered_stays b w (frames.MaxStreamData id limit ∷ fs) h none = offered_stays b w fs h.3 none
offered_stays b w (frames.MaxStreams dir limit ∷ fs) h none = offered_stays b w fs h.3 none
offered_stays b w (frames.Datagram body ∷ fs) h none = offered_stays b w fs h.3 none
offered_stays b w (frames.NewConnectionId new ∷ fs) h none = offered_stays b w fs h.3 none
offered_stays b w (frames.RetireConnectionId sequence ∷ fs) h none = offered_stays b w fs h.3 none
offered_stays b w (_ ∷ fs) h none = absurd (cc)

-- ---- what they leave

module _ {S : Type 0} where
  -- the layers below after steps of their own
  abbrev stepped : List Step → List datagrams.Step → List ids.Step → Lower S → Lower S
  stepped xs ys zs l = record l { streams = after xs l.streams; datagrams = datagrams.after ys l.datagrams; ids = ids.after zs l.ids }

  sealed_is : (fs : List FrameValue) (l : Lower S) → frames_sealed fs l ≡ stepped (sealed_steps fs) (sealed_datagrams fs) (sealed_cids fs) l
  unfolding frames_sealed streams_stepped datagrams_stepped ids_stepped
  sealed_is fs l = refl

  -- the same steps leave the same
  sealed_by : (fs : List FrameValue) (xs : List Step) (ys : List datagrams.Step) (zs : List ids.Step) (l : Lower S) → sealed_steps fs ≡ xs → sealed_datagrams fs ≡ ys → sealed_cids fs ≡ zs →
      frames_sealed fs l ≡ stepped xs ys zs l
  sealed_by fs xs ys zs l steps posts cids =
      sealed_is fs l ∙ ap (λ (k : List Step). stepped k (sealed_datagrams fs) (sealed_cids fs) l) steps ∙ ap (λ (k : List datagrams.Step). stepped xs k (sealed_cids fs) l) posts
      ∙ ap (λ (k : List ids.Step). stepped xs ys k l) cids

  pub sealed_same : (fs gs : List FrameValue) (l : Lower S) → sealed_steps fs ≡ sealed_steps gs → sealed_datagrams fs ≡ sealed_datagrams gs → sealed_cids fs ≡ sealed_cids gs → frames_sealed fs l ≡ frames_sealed gs l
  sealed_same fs gs l steps posts cids = sealed_by fs (sealed_steps gs) (sealed_datagrams gs) (sealed_cids gs) l steps posts cids ∙ sym (sealed_is gs l)

  -- what joined frames leave
  stepped_both : (xs xs' : List Step) (ys ys' : List datagrams.Step) (zs zs' : List ids.Step) (l : Lower S) → stepped (xs ++ xs') (ys ++ ys') (zs ++ zs') l ≡ stepped xs' ys' zs' (stepped xs ys zs l)
  stepped_both xs xs' ys ys' zs zs' l =
      ap (λ (k : StreamsState). record l { streams = k; datagrams = datagrams.after (ys ++ ys') l.datagrams; ids = ids.after (zs ++ zs') l.ids }) (after_append xs xs' l.streams)
      ∙ ap (λ (k : Datagrams). record l { streams = after xs' (after xs l.streams); datagrams = k; ids = ids.after (zs ++ zs') l.ids }) (posts_append ys ys' l.datagrams)
      ∙ ap (λ (k : ConnectionIds). record l { streams = after xs' (after xs l.streams); datagrams = datagrams.after ys' (datagrams.after ys l.datagrams); ids = k }) (settled.after_append zs zs' l.ids)

  pub frames_sealed_append : (fs gs : List FrameValue) (l : Lower S) → frames_sealed (fs ++ gs) l ≡ frames_sealed gs (frames_sealed fs l)
  frames_sealed_append fs gs l =
      sealed_by (fs ++ gs) (sealed_steps fs ++ sealed_steps gs) (sealed_datagrams fs ++ sealed_datagrams gs) (sealed_cids fs ++ sealed_cids gs) l (sealed_append fs gs) (datagrams_append fs gs) (cids_append fs gs)
      ∙ stepped_both (sealed_steps fs) (sealed_steps gs) (sealed_datagrams fs) (sealed_datagrams gs) (sealed_cids fs) (sealed_cids gs) l
      ∙ sym (sealed_is gs (frames_sealed fs l) ∙ ap (λ (x : Lower S). stepped (sealed_steps gs) (sealed_datagrams gs) (sealed_cids gs) x) (sealed_is fs l))

  -- what frames leave of each layer
  sealed_streams : (fs : List FrameValue) (l : Lower S) → (frames_sealed fs l).streams ≡ after (sealed_steps fs) l.streams
  sealed_streams fs l = ap (λ (x : Lower S). x.streams) (sealed_is fs l)

  sealed_posts : (fs : List FrameValue) (l : Lower S) → (frames_sealed fs l).datagrams ≡ datagrams.after (sealed_datagrams fs) l.datagrams
  sealed_posts fs l = ap (λ (x : Lower S). x.datagrams) (sealed_is fs l)

  sealed_ids : (fs : List FrameValue) (l : Lower S) → (frames_sealed fs l).ids ≡ ids.after (sealed_cids fs) l.ids
  sealed_ids fs l = ap (λ (x : Lower S). x.ids) (sealed_is fs l)

  -- ---- one behind the other

  module _ (issuer : Option (IpAddr → ℕ → List ℕ)) (ip : IpAddr) where
    -- nothing is taken
    pub offers_nothing : (in_data : Bool) (room : ℕ) (w : SpaceWaiting) (r : Stream) (l : Lower S) (fs : List FrameValue) → TakesOffered issuer ip in_data room w w r r l l fs fs room
    unfolding sealed_steps sealed_datagrams sealed_cids AllMay AllOldest AllNext AllIssued behind_tokens without_all after datagrams.after ids.after
    offers_nothing in_data room w r l fs =
        record { own = []; are = tt; may = tt; oldest = tt; next = tt; issued = tt; leads = sym (sealed_is [] l); rest = refl; drawn = refl; list = sym (append-nil fs); fits = omega arith }

    -- frames of the streams are
    pub offers_streams : (room left : ℕ) (w : SpaceWaiting) (r : Stream) (l : Lower S) (s : StreamsState) (fs gs : List FrameValue) → TakesStreams true room l.streams s fs gs left →
        TakesOffered issuer ip true room w w r r l (record l { streams = s }) fs gs left
    unfolding datagrams.after ids.after
    offers_streams room left w r l s fs gs takes =
        let posts : sealed_datagrams takes.own ≡ [] = streams_no_datagrams true takes.own takes.are in
        let cids : sealed_cids takes.own ≡ [] = streams_no_cids true takes.own takes.are in
        let none : tokens_of takes.own ≡ [] = tokens_streams true takes.own takes.are in
        record {
          own = takes.own;
          are = are_streams true takes.own takes.are;
          may = takes.may;
          oldest = oldest_none takes.own l.datagrams posts;
          next = next_none takes.own l.ids cids;
          issued = issued_none issuer ip takes.own w r none;
          leads = ap (λ (x : StreamsState). record l { streams = x }) takes.leads ∙ sym (sealed_by takes.own (sealed_steps takes.own) [] [] l refl posts cids);
          rest = offered_stays true w takes.own (are_streams true takes.own takes.are) none;
          drawn = sym (undrawn takes.own r none);
          list = takes.list;
          fits = takes.fits;
        }

    -- so are DATAGRAMs
    pub offers_datagrams : (room left : ℕ) (w : SpaceWaiting) (r : Stream) (l : Lower S) (d : Datagrams) (fs gs : List FrameValue) → TakesDatagrams room l.datagrams d fs gs left →
        TakesOffered issuer ip true room w w r r l (record l { datagrams = d }) fs gs left
    unfolding after ids.after
    offers_datagrams room left w r l d fs gs takes =
        let steps : sealed_steps takes.own ≡ [] = datagrams_no_steps takes.own takes.are in
        let cids : sealed_cids takes.own ≡ [] = datagrams_no_cids takes.own takes.are in
        let none : tokens_of takes.own ≡ [] = tokens_datagrams takes.own takes.are in
        record {
          own = takes.own;
          are = are_datagrams takes.own takes.are;
          may = none_may takes.own l.streams steps;
          oldest = takes.oldest;
          next = next_none takes.own l.ids cids;
          issued = issued_none issuer ip takes.own w r none;
          leads = ap (λ (x : Datagrams). record l { datagrams = x }) takes.given ∙ sym (sealed_by takes.own [] (sealed_datagrams takes.own) [] l steps refl cids);
          rest = offered_stays true w takes.own (are_datagrams takes.own takes.are) none;
          drawn = sym (undrawn takes.own r none);
          list = takes.list;
          fits = takes.fits;
        }

    -- and frames about ids
    pub offers_ids : (room left : ℕ) (w : SpaceWaiting) (r : Stream) (l : Lower S) (d : ConnectionIds) (fs gs : List FrameValue) → TakesIds room l.ids d fs gs left →
        TakesOffered issuer ip true room w w r r l (record l { ids = d }) fs gs left
    unfolding after datagrams.after
    offers_ids room left w r l d fs gs takes =
        let steps : sealed_steps takes.own ≡ [] = ids_no_steps takes.own takes.are in
        let posts : sealed_datagrams takes.own ≡ [] = ids_no_datagrams takes.own takes.are in
        let none : tokens_of takes.own ≡ [] = tokens_ids takes.own takes.are in
        record {
          own = takes.own;
          are = are_ids takes.own takes.are;
          may = none_may takes.own l.streams steps;
          oldest = oldest_none takes.own l.datagrams posts;
          next = takes.next;
          issued = issued_none issuer ip takes.own w r none;
          leads = ap (λ (x : ConnectionIds). record l { ids = x }) takes.told ∙ sym (sealed_by takes.own [] [] (sealed_cids takes.own) l steps posts refl);
          rest = offered_stays true w takes.own (are_ids takes.own takes.are) none;
          drawn = sym (undrawn takes.own r none);
          list = takes.list;
          fits = takes.fits;
        }

    -- and NEW_TOKENs
    pub offers_tokens : (room left : ℕ) (w w' : SpaceWaiting) (r r' : Stream) (l : Lower S) (fs gs : List FrameValue) → TakesTokens issuer ip room w w' r r' fs gs left →
        TakesOffered issuer ip true room w w' r r' l l fs gs left
    unfolding after datagrams.after ids.after
    offers_tokens room left w w' r r' l fs gs takes =
        let steps : sealed_steps takes.own ≡ [] = tokens_no_steps takes.own takes.are in
        let posts : sealed_datagrams takes.own ≡ [] = tokens_no_datagrams takes.own takes.are in
        let cids : sealed_cids takes.own ≡ [] = tokens_no_cids takes.own takes.are in
        record {
          own = takes.own;
          are = are_tokens takes.own takes.are;
          may = none_may takes.own l.streams steps;
          oldest = oldest_none takes.own l.datagrams posts;
          next = next_none takes.own l.ids cids;
          issued = takes.issued;
          leads = sym (sealed_by takes.own [] [] [] l steps posts cids);
          rest = takes.rest;
          drawn = takes.drawn;
          list = takes.list;
          fits = takes.fits;
        }

    -- frames are taken, and more behind them
    pub offers_both : (b : Bool) (room left left' : ℕ) (w w1 w2 : SpaceWaiting) (r r1 r2 : Stream) (l l1 l2 : Lower S) (fs gs hs : List FrameValue) → TakesOffered issuer ip b room w w1 r r1 l l1 fs gs left →
        TakesOffered issuer ip b left w1 w2 r1 r2 l1 l2 gs hs left' → TakesOffered issuer ip b room w w2 r r2 l l2 fs hs left'
    offers_both b room left left' w w1 w2 r r1 r2 l l1 l2 fs gs hs first behind =
        let may : AllMay (sealed_steps behind.own) (after (sealed_steps first.own) l.streams) =
        subst (λ (x : StreamsState). AllMay (sealed_steps behind.own) x) (ap (λ (x : Lower S). x.streams) first.leads ∙ sealed_streams first.own l) behind.may in
        let oldest : AllOldest behind.own (datagrams.after (sealed_datagrams first.own) l.datagrams) =
        subst (λ (x : Datagrams). AllOldest behind.own x) (ap (λ (x : Lower S). x.datagrams) first.leads ∙ sealed_posts first.own l) behind.oldest in
        let next : AllNext behind.own (ids.after (sealed_cids first.own) l.ids) =
        subst (λ (x : ConnectionIds). AllNext behind.own x) (ap (λ (x : Lower S). x.ids) first.leads ∙ sealed_ids first.own l) behind.next in
        let issued : AllIssued issuer ip behind.own (without_all w first.own) (behind_tokens first.own r) =
        subst (λ (x : SpaceWaiting). AllIssued issuer ip behind.own x (behind_tokens first.own r)) first.rest (subst (λ (x : Stream). AllIssued issuer ip behind.own w1 x) first.drawn behind.issued) in
        record {
          own = first.own ++ behind.own;
          are = are_offered_both b first.own behind.own first.are behind.are;
          may = subst (λ (xs : List Step). AllMay xs l.streams) (sym (sealed_append first.own behind.own)) (may_append (sealed_steps first.own) (sealed_steps behind.own) l.streams first.may may);
          oldest = oldest_append first.own behind.own l.datagrams first.oldest oldest;
          next = next_append first.own behind.own l.ids first.next next;
          issued = issued_append issuer ip first.own behind.own w r first.issued issued;
          leads = behind.leads ∙ ap (λ (x : Lower S). frames_sealed behind.own x) first.leads ∙ sym (frames_sealed_append first.own behind.own l);
          rest = behind.rest ∙ ap (λ (x : SpaceWaiting). without_all x behind.own) first.rest ∙ sym (without_both w first.own behind.own);
          drawn = behind.drawn ∙ ap (λ (x : Stream). behind_tokens behind.own x) first.drawn ∙ sym (behind_append first.own behind.own r);
          list = behind.list ∙ ap (λ (x : List FrameValue). x ++ behind.own) first.list ∙ append_assoc fs first.own behind.own;
          fits = omega (arith, spelled_append first.own behind.own, first.fits, behind.fits);
        }

    -- first those of the streams without bytes, then those about ids, then DATAGRAMs, then NEW_TOKENs, then the streams' bytes; of the answers of the
    -- calls that take them
    pub offers_all : {E : Type 0} (in_data : Bool) (room more rest least left : ℕ) (w w' : SpaceWaiting) (r r' : Stream) (l : Lower S) (s1 s2 : StreamsState) (c : ConnectionIds) (d : Datagrams)
        (fs gs hs ks ts js : List FrameValue) (answer : Result ℕ E) → in_data ≡ true → TakesStreams true room l.streams s1 fs gs more → TakesIds more l.ids c gs hs rest → TakesDatagrams rest l.datagrams d hs ks least →
        TakesTokens issuer ip least w w' r r' ks ts left → IfOk answer (λ n. TakesStreams true left s1 s2 ts js n) →
        IfOk answer (λ n. TakesOffered issuer ip in_data room w w' r r' l (record l { streams = s2; ids = c; datagrams = d }) fs js n)
    offers_all in_data room more rest least left w w' r r' l s1 s2 c d fs gs hs ks ts js (Ok n) is controls cids posts tokens parts =
        let l1 : Lower S = record l { streams = s1 } in
        let l2 : Lower S = record l1 { ids = c } in
        let l3 : Lower S = record l2 { datagrams = d } in
        let l4 : Lower S = record l3 { streams = s2 } in
        subst (λ (x : Bool). TakesOffered issuer ip x room w w' r r' l l4 fs js n) (sym is)
        (offers_both true room more n w w w' r r r' l l1 l4 fs gs js (offers_streams room more w r l s1 fs gs controls)
        (offers_both true more rest n w w w' r r r' l1 l2 l4 gs hs js (offers_ids more rest w r l1 c gs hs cids)
        (offers_both true rest least n w w w' r r r' l2 l3 l4 hs ks js (offers_datagrams rest least w r l2 d hs ks posts)
        (offers_both true least left n w w' w' r r' r' l3 l3 l4 ks ts js (offers_tokens least left w w' r r' l3 ks ts tokens) (offers_streams left n w' r' l3 s2 ts js parts)))))
    offers_all in_data room more rest least left w w' r r' l s1 s2 c d fs gs hs ks ts js (Err e) is controls cids posts tokens parts = tt

-- where what was taken leaves 64 bytes of the room, none of the layers offers a frame any more, and no NEW_TOKEN waits, of the answers of the calls
-- that take them
pub offers_full : {E : Type 0} (issuer : Option (IpAddr → ℕ → List ℕ)) (ip : IpAddr) (in_data : Bool) (more rest least left : ℕ) (s1 s2 : StreamsState) (c c0 : ConnectionIds) (d d0 : Datagrams) (w w0 : SpaceWaiting) (r r0 : Stream)
    (gs hs ks ts js : List FrameValue) (answer : Result ℕ E) → (64 ≤ more → next_control 64 s1 ≡ None) → TakesIds more c0 c gs hs rest → (64 ≤ rest → ids_offer c ≡ false) → TakesDatagrams rest d0 d hs ks least →
    TakesTokens issuer ip least w0 w r0 r ks ts left → (64 ≤ left → tokens_wait w ≡ false) → IfOk answer (λ n. TakesStreams true left s1 s2 ts js n) →
    IfOk answer (λ n. 19 < n → turn_waits (next_turn s2.waiting.ready) s2 ≡ false) → IfOk answer (λ n. next_control 64 s2 ≡ next_control 64 s1) →
    IfOk answer (λ n. in_data ≡ true → 64 ≤ n → (streams_offer s2 || (ids_offer c || tokens_wait w)) ≡ false)
offers_full issuer ip in_data more rest least left s1 s2 c c0 d d0 w w0 r r0 gs hs ks ts js (Ok n) controls cids ids posts tokens waits parts turn same = λ e enough.
    let few : n ≤ left = omega (arith, parts.fits) in
    let less : left ≤ least = omega (arith, tokens.fits) in
    let lesser : least ≤ rest = omega (arith, posts.fits) in
    let control : next_control 64 s2 ≡ None = same ∙ controls (omega (arith, enough, few, less, lesser, cids.fits)) in
    let none : turn_waits (next_turn s2.waiting.ready) s2 ≡ false = turn (omega (arith, enough)) in
    let nothing : ids_offer c ≡ false = ids (omega (arith, enough, few, less, lesser)) in
    let gone : tokens_wait w ≡ false = waits (omega (arith, enough, few)) in
    λ i. (is_some (control i) || none i) || (nothing i || gone i)
offers_full issuer ip in_data more rest least left s1 s2 c c0 d d0 w w0 r r0 gs hs ks ts js (Err e) controls cids ids posts tokens waits parts turn same = tt
