mod Bytes
mod Accepted
mod InCode
