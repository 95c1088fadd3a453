-- Which addresses a maker of transports is asked for.
use Rattle.std.specs.Prelude.{List, [], ◌∷◌, ◌++◌, Option}
use Rattle.std.specs.Option.{option_map}
use Rattle.std.specs.declared.net.socket_addr.SocketAddr.{SocketAddr}

-- one address more, if the addresses that the maker was asked for are known
abbrev pub and_address : Option (List SocketAddr) → SocketAddr → Option (List SocketAddr)
and_address addresses addr = option_map (λ earlier. earlier ++ addr ∷ []) addresses
