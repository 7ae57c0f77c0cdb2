use Rattle.std.proofs.Common.{ℕ, List, None, Option, false, ◌≡◌, sym, subst, rules}
use Rattle.std.specs.Option.{IsSomeAnd}
use Rattle.fa_bodies.specs.Requests.{request_shown}
use Rattle.fa_ledger.specs.declared.tables.Used.{Used}
use Rattle.fa_ledger.specs.declared.call.Listing.{Listing}
use Rattle.fa_ledger.specs.parts.TableParts.{IsUsedIfAny}
use Rattle.fa_ledger.specs.parts.ListingParts.{place_of}
use Rattle.fa_ledger.specs.parts.Ids.{IsIdIn}
use Rattle.fa_ledger.specs.parts.RowParts.{AreNotBoth}
use Rattle.fa_ledger.proofs.IdLemmas.{name_there}
use Rattle.fa_ledger.proofs.RequestBookLemmas.{match_then, listing_apart, shows_left, shows_closed, shows_gone, shows_called}
use Rattle.fa_ledger.proofs.books.Books.note_use.Goals as goal

pub asked-requires : goal.asked-requires
asked-requires c = c.is_tree_request.ensures.0 c.if-is_tree_request.true

pub push-requires-clause-apart : goal.push-requires-clause-apart
push-requires-clause-apart c =
    subst (λ (listing : Option Listing). AreNotBoth c.args.names.other listing) (sym c.listing_of.ensures)
    (listing_apart c.requires.2 (request_shown c.args.message.now.request) c.args.names c.args.used (place_of c.args.self.now.listings.by_key.entries) c.requires.4)

pub push-requires-clause-named : goal.push-requires-clause-named
push-requires-clause-named c =
    let message = c.args.message.now in
    subst (λ (bytes : List ℕ). IsIdIn bytes c.args.names.node) (sym c.asked.ensures.request)
    (name_there message.bytes.now (request_shown message.request) c.requires.2 c.args.names.node message.read c.requires.4.node)

pub returns-in_ok-push-clause-shows : goal.returns-in_ok-push-clause-shows
returns-in_ok-push-clause-shows c = λ before m es stands names used.
    shows_called before m es c.args.at (request_shown c.args.message.now.request) c.args.self.now c.asked.result.said.0 c.args.names c.args.used c.map.result c.is_some_and.result c.truncates.result c.listing_of.result c.push.new.self
    stands names used c.requires.6 c.asked.ensures.said
    (match_then c.args.used (c.map.result ≡ None) (λ u. IsSomeAnd c.map.result (λ name. name ≡ u.handle.name)) c.map.ensures.cases (λ u named. search rules))
    (match_then c.args.used (c.is_some_and.result ≡ false) (λ u. c.is_some_and.result ≡ u.handle.direct) c.is_some_and.ensures (λ u marked. search rules))
    c.truncates.ensures c.listing_of.ensures c.in_ok-push.ensures.pushed

pub returns-then-close-clause-shows : goal.returns-then-close-clause-shows
returns-then-close-clause-shows c = λ before m es stands names used.
    shows_gone before m es c.args.at (request_shown c.args.message.now.request) c.args.self.now c.close.new.self c.close-then-close.new.self c.in-Some.used c.requires.6 (sym c.if-is_closing.ensures) (λ tree. let yes = c.is_tree_request.ensures.1 tree in let no = c.if-is_tree_request.false in absurd cc)
    (subst (λ (u : Option Used). IsUsedIfAny es (request_shown c.args.message.now.request) c.args.self.now.tables.handles.opened.entries u) c.in-Some.is used)
    c.close.ensures.closed c.if-close.ensures.gone c.close-then-close.ensures stands

pub returns-else-close-clause-shows : goal.returns-else-close-clause-shows
returns-else-close-clause-shows c = λ before m es stands names used.
    shows_closed before m es c.args.at (request_shown c.args.message.now.request) c.args.self.now c.close.new.self c.in-Some.used c.requires.6 (sym c.if-is_closing.ensures) (λ tree. let yes = c.is_tree_request.ensures.1 tree in let no = c.if-is_tree_request.false in absurd cc)
    (subst (λ (u : Option Used). IsUsedIfAny es (request_shown c.args.message.now.request) c.args.self.now.tables.handles.opened.entries u) c.in-Some.is used)
    c.close.ensures.closed c.if-close.ensures.gone stands

pub returns-else-is_closing-clause-shows : goal.returns-else-is_closing-clause-shows
returns-else-is_closing-clause-shows c = λ before m es stands names used.
    shows_left before m es c.args.at (request_shown c.args.message.now.request) c.args.self.now c.requires.6 (sym c.if-is_closing.ensures) (λ tree. let yes = c.is_tree_request.ensures.1 tree in let no = c.if-is_tree_request.false in absurd cc) stands
