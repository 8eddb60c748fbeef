mod Bytes
mod Holding
