-- THE TARGET of a request: which of the routes it takes, by the router's rule, and what its
-- parts name.
use Rattle.std.specs.Prelude.{ℕ, Bool, if◌then◌else◌, List, [], codes, unwrap_or, Option, Some, None}
use Rattle.std.specs.Prelude.{option_map, Result, Ok, Err}
use Rattle.std.specs.Char.{is_ascii}
use Rattle.clr_rules.specs.Prelude.{list_all, Id}
use Rattle.matchit.specs.Order.{placed}
use Rattle.matchit.specs.Params.{named, walk}
use Rattle.matchit.specs.Route.{Scan, parse_route}
use Rattle.matchit.specs.Router.{RouteOf, route_from}
use Rattle.matchit.specs.Rows.{RowsOf}
use Rattle.matchit.specs.Seek.{first}
use Rattle.matchit.specs.declared.error.InsertError.{InsertError}
use Rattle.clr_net.specs.NameText.{read_name}
use Rattle.clr_net.specs.declared.name.NameFault.{NameFault}
use Rattle.clr_rules.specs.IdText.{id_of, read_number}
use Rattle.clr_print.specs.Printed.{read_round}
use Rattle.clr_http.specs.declared.target.Target.{Target}
use Rattle.clr_http.specs.declared.target.OrderRequest.{OrderRequest}
use Rattle.clr_http.specs.declared.target.Route.{Route}
use Rattle.clr_http.specs.declared.target.Route.TheVariants.{Command, Clearance, Order, Board}
use Rattle.clr_http.specs.declared.target.Route.TheVariants.{Network, WayBack}
use Rattle.clr_http.specs.declared.target.ViewRequest.{ViewRequest}
use Rattle.clr_http.specs.declared.target.Target.TheVariants as asked

-- the rows of a router with one route more, where its text reads as one
abbrev pub with_read : Result Scan InsertError → Route → RowsOf (RouteOf Route)
    → RowsOf (RouteOf Route)
with_read (Ok s) route rows = let r = route_from s route in placed (r.pattern, r) rows
with_read (Err e) route rows = rows

abbrev pub with_route : List ℕ → Route → RowsOf (RouteOf Route) → RowsOf (RouteOf Route)
with_route text route rows = with_read (parse_route text) route rows

-- THE FOUR ROUTES
unfoldable pub the_routes : RowsOf (RouteOf Route)
the_routes =
    with_route (codes "/board") Board
    (with_route (codes "/order/{requester}/{number}/{round}") Order
    (with_route (codes "/clearance/{caller}/{requester}/{number}") Clearance
    (with_route (codes "/command") Command [])))

-- a desk has two more
unfoldable pub desk_routes : RowsOf (RouteOf Route)
desk_routes = with_route (codes "/wayback/{requester}/{number}") WayBack
    (with_route (codes "/network") Network the_routes)

abbrev pub routes_of : Bool → RowsOf (RouteOf Route)
routes_of desk = if desk then desk_routes else the_routes

-- a route, by its parts
abbrev pub route_in : List ℕ → List ℕ → List (ℕ × ℕ) → Route → RouteOf Route
route_in pattern text names route =
    record { pattern = pattern; text = text; names = names; value = route }

-- the part of a target that a route gives this name. A target with a byte beyond ASCII has no part
-- that reads
abbrev pub part : List ℕ → RouteOf Route → List ℕ → List ℕ
part target r key =
    if list_all is_ascii target
    then unwrap_or (named key (walk r.pattern r.text target r.names 0 0)) [] else []

-- the clearance that two parts name
abbrev pub id_at : List ℕ → RouteOf Route → Option Id
id_at target r = id_of (read_name (part target r (codes "requester")))
    (read_number (part target r (codes "number")))

-- what is to be viewed, and by whom, where all parts read
abbrev pub view_request : Result (List ℕ) NameFault → Option Id → Option ViewRequest
view_request (Ok caller) (Some id) = Some (record { caller = caller; id = id })
view_request (Ok caller) None = None
view_request (Err fault) id = None

-- which order is to be printed, where all parts read
abbrev pub order_request : Option Id → Option ℕ → Option OrderRequest
order_request (Some id) (Some round) = Some (record { id = id; round = round })
order_request (Some id) None = None
order_request None round = None

-- what a target asks for, by its route
abbrev pub target_by : List ℕ → RouteOf Route → Route → Target
target_by target r Command = asked.Command
target_by target r Clearance =
    asked.Clearance (view_request (read_name (part target r (codes "caller"))) (id_at target r))
target_by target r Order =
    asked.Order (order_request (id_at target r) (read_round (part target r (codes "round"))))
target_by target r Board = asked.Board
target_by target r Network = asked.Network
target_by target r WayBack = asked.WayBack (id_at target r)

-- WHAT A TARGET ASKS FOR: nothing where no route is its own
abbrev pub target_of : Bool → List ℕ → Option Target
target_of desk target =
    option_map (λ r. target_by target r r.value) (first (routes_of desk) target)
