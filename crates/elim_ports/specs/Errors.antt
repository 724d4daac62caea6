-- Errors of ports as errors of `read_all`.
use Rattle.elim_ports.specs.declared.port_error.PortError.{PortError}
use Rattle.elim_ports.specs.declared.port_error.PortError.TheVariants as port
use Rattle.elim_ports.specs.declared.reading.ReadError.{ReadError}
use Rattle.elim_ports.specs.declared.reading.ReadError.TheVariants as read

-- the error, of a read to the end
abbrev pub read_error_of : PortError → ReadError
read_error_of port.Fault = read.Fault
read_error_of port.Memory = read.Memory
